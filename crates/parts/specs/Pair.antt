-- Tests of bytes and of bytes that stand side by side, and how one that stands twice in a row is searched.
use Rattle.std.specs.Prelude.{ℕ, ◌+◌, ◌≤◌, ◌≡◌, [], ◌∷◌, Bool, false, ◌&&◌, ◌||◌, length, take, drop, eqb}
use Rattle.parts.specs.Bytes.{Bytes, find}

-- whether one of a text's bytes, but for the last, and the byte behind it pass a test
unfoldable pub any_pair : (ℕ → ℕ → Bool) → Bytes → Bool
any_pair p [] = false
any_pair p (x ∷ []) = false
any_pair p (x ∷ y ∷ s) = p x y || any_pair p (y ∷ s)

-- whether a byte is each of two
unfoldable pub is_both : ℕ → ℕ → ℕ → Bool
is_both x y z = eqb x y && eqb x z

-- what a closure returns at a byte is what a test says of it
abbrev pub IsTest : (ℕ → Bool → Type 0) → (ℕ → Bool) → Type 0
IsTest post p = (x : ℕ) (r : Bool) → post x r → r ≡ p x

-- the same at two bytes
abbrev pub IsPairTest : (ℕ → ℕ → Bool → Type 0) → (ℕ → ℕ → Bool) → Type 0
IsPairTest post p = (x y : ℕ) (r : Bool) → post x y r → r ≡ p x y

-- a place of a text up to which the whole blocks are clear: each of `size` bytes, one begun every `step` bytes
pub data ClearTo (Clear : Bytes → Type 0) (s : Bytes) (size step : ℕ) : ℕ → Type 0 where
  start : ClearTo Clear s size step 0
  block : (i : ℕ) → i + size ≤ length s → Clear (take size (drop i s)) → ClearTo Clear s size step i → ClearTo Clear s size step (i + step)

-- a place of a text before which no pair of a byte begins
pub record NoPairTo (x : ℕ) (s : Bytes) (i : ℕ) : Type 0 where
  pub within : i ≤ length s
  pub rest : i + find (x ∷ x ∷ []) (drop i s) ≡ find (x ∷ x ∷ []) s
