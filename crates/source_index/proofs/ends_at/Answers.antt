use Rattle.std.proofs.Common.{◌∙◌, sym}
use Rattle.source_index.proofs.Firsts.{ends_dull, ends-past, ends_read}
use Rattle.source_index.proofs.ends_at.Goals as goal
use Rattle.source_index.proofs.ends_at.Goals.{then-i-s, else-i-s}

pub returns-then-opens : goal.returns-then-opens
returns-then-opens c = search ends_read

pub returns-else-opens : goal.returns-else-opens
returns-else-opens c =
    elim c.if-i-s.branch [
      | then-i-s w ↦ c.if-opens.false ∙ ends_dull _ _ w.if-i-s.true w.opens.ensures (sym w.value-is ∙ c.if-opens.false)
      | else-i-s w ↦ c.if-opens.false ∙ ends-past _ _ w.if-i-s.false
    ]
