-- What the calls for a text and for a window of it leave, beside what stands in a lent buffer: numbers at fixed places, as far as the lent slice reaches. The contracts.
use Rattle.std.specs.Prelude.{◌≡◌, List, ℕ, set}
use Rattle.parts.specs.Bytes.{Bytes}
use Rattle.events.specs.Text.{Outcome}
use Rattle.usx.specs.Shown.{View}

-- the outcome's number; of the lent numbers 0 is the length that the outcome gives; its buffer
pub record Wrote (o : Outcome) (before : List ℕ) (number : ℕ) (after : List ℕ) (last : Bytes) : Type 0 where
  pub answer : number ≡ o.number
  pub told : after ≡ set before 0 o.given
  pub buffer : last ≡ o.buffer

-- the view's number; of the lent numbers 0 is how many bytes are given and 1 how long the whole text is; the view's buffer
pub record Showed (v : View) (before : List ℕ) (number : ℕ) (after : List ℕ) (last : Bytes) : Type 0 where
  pub answer : number ≡ v.number
  pub lengths : after ≡ set (set before 0 v.given) 1 v.whole
  pub buffer : last ≡ v.buffer
