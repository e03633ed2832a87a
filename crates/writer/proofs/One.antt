-- Any two results that satisfy the contract of a step are equal: answers and whole buffers.
use mathlib.Core.Path.{◌≡◌, sym, ◌∙◌}
use Rattle.parts.specs.Bytes.{Bytes}
use Rattle.draft.specs.Draft.{Act}
use Rattle.layout.specs.declared.Writer.{Writer}
use Rattle.writer.specs.declared.Answer.{Answer}
use Rattle.writer.specs.Steps.{Took, Started, Finished}

module _ (w : Writer) (buf : Bytes) {r s : Answer} {last end : Bytes} where
  pub one_step : (a : Act) → Took w buf a r last → Took w buf a s end → (r ≡ s) × (last ≡ end)
  one_step a p q = (p.answer ∙ sym q.answer, p.buffer ∙ sym q.buffer)

  pub one_start : Started w buf r last → Started w buf s end → (r ≡ s) × (last ≡ end)
  one_start p q = (p.answer ∙ sym q.answer, p.buffer ∙ sym q.buffer)

  pub one_finish : Finished w buf r last → Finished w buf s end → (r ≡ s) × (last ≡ end)
  one_finish p q = (p.answer ∙ sym q.answer, p.buffer ∙ sym q.buffer)
