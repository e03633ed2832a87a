-- The contract of the checker leaves one number and the same lent numbers.
use mathlib.Core.Path.{◌≡◌, sym, ap, ◌∙◌}
use mathlib.Core.List.{List}
use Prim.Native.Nat.{ℕ}
use lib.ListN.{set}
use Rattle.parts.specs.Bytes.{Bytes}
use Rattle.checker.specs.declared.Verdict.{Verdict}
use Rattle.checker.specs.Answer.{answer_of}
use Rattle.checker.proofs.Answers.{settled}
use Rattle.told.specs.Told.{place_told, line_told, Checked}

pub one_checked : {before a b : List ℕ} {n m : ℕ} {text : Bytes} → Checked text before n a → Checked text before m b → (n ≡ m) × (a ≡ b)
one_checked {before} {a} {b} {n} {m} {text} p q =
    let e = settled text p.verdict q.verdict p.judged q.judged in (
      p.answer ∙ ap (λ (v : Verdict). (answer_of v).number) e ∙ sym q.answer,
      p.told
          ∙ ap (λ (v : Verdict). set (set (set (set before 0 (answer_of v).chapters) 1 (answer_of v).verses) 2 (place_told v text)) 3 (line_told v text (place_told v text))) e
          ∙ sym q.told,
    )
