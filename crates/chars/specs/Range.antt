-- Ranges of numbers, as Unicode's tables give them.
use Rattle.std.specs.Prelude.{ℕ, List, [], ◌∷◌, Bool, false, ◌&&◌, ◌||◌, leb}

-- the numbers from low to high, both among them
pub record Range : Type 0 where
  pub low : ℕ
  pub high : ℕ

infix 70 ◌to◌
-- the range from one number to another, both counted in
abbrev pub ◌to◌ : ℕ → ℕ → Range
l to h = record { low = l; high = h }

-- whether a number lies in a range
unfoldable pub within : Range → ℕ → Bool
within r x = leb r.low x && leb x r.high

-- whether a number lies in one of some ranges
unfoldable pub in_any : List Range → ℕ → Bool
in_any [] x = false
in_any (r ∷ rs) x = within r x || in_any rs x
