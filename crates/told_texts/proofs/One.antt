-- The contracts leave one number, the same lent numbers and one buffer.
use mathlib.Core.Path.{◌≡◌, sym, ◌∙◌}
use mathlib.Core.List.{List}
use Prim.Native.Nat.{ℕ}
use Rattle.parts.specs.Bytes.{Bytes}
use Rattle.events.specs.Text.{Outcome}
use Rattle.usx.specs.Shown.{View}
use Rattle.told_texts.specs.Told.{Wrote, Showed}

module _ {before a b : List ℕ} {n m : ℕ} where
  pub one_wrote : {o : Outcome} {x y : Bytes} → Wrote o before n a x → Wrote o before m b y → (n ≡ m) × (a ≡ b) × (x ≡ y)
  one_wrote p q = (p.answer ∙ sym q.answer, p.told ∙ sym q.told, p.buffer ∙ sym q.buffer)

  pub one_showed : {v : View} {x y : Bytes} → Showed v before n a x → Showed v before m b y → (n ≡ m) × (a ≡ b) × (x ≡ y)
  one_showed p q = (p.answer ∙ sym q.answer, p.lengths ∙ sym q.lengths, p.buffer ∙ sym q.buffer)
