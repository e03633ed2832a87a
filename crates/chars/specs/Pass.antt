-- How far a test of UTF-8 has come.
use Rattle.std.specs.Prelude.{ℕ, ◌≤◌, ◌≡◌, Bool, false, ◌||◌, [], ◌∷◌, length, drop, leb}
use Rattle.parts.specs.Bytes.{Bytes}
use Rattle.chars.specs.Utf8.{is_utf8}

-- whether a text has a byte beyond ASCII
unfoldable pub any_high : Bytes → Bool
any_high [] = false
any_high (x ∷ s) = leb 128 x || any_high s

-- a place of a text, which is UTF-8 if and only if the rest from there on is
pub record PassTo (s : Bytes) (i : ℕ) : Type 0 where
  pub within : i ≤ length s
  pub rest : is_utf8 (drop i s) ≡ is_utf8 s
