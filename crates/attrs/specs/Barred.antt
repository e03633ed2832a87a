-- Attributes that are written as they stand in the source.
use Rattle.std.specs.Prelude.{ℕ, suc, ◌+◌, ◌≤◌, ◌<◌, max, ◌≡◌, [], ◌∷◌, ◌++◌, Bool, true, false, not, ◌&&◌, ◌||◌, length, drop, eqb}
use Rattle.parts.specs.Bytes.{Bytes, b}
use Rattle.chars.specs.Range.{◌to◌, within}
use Rattle.chars.specs.Escape.{special}

-- a byte of a simple key: 23..7E and no `=`
unfoldable pub in_key : ℕ → Bool
in_key x = within (35 to 126) x && not (eqb x 61)

-- a byte of a simple value: none that is written by name, and no `\`
unfoldable pub in_value : ℕ → Bool
in_value x = not (special true x || eqb x 92)

-- how many bytes from the front on pass a test
unfoldable pub lead : (ℕ → Bool) → Bytes → ℕ
lead p [] = 0
lead p (x ∷ s) = elim (p x) [ true ↦ suc (lead p s) | false ↦ 0 ]

-- where the bytes end that pass a test and start at a place
pub record RunTo (p : ℕ → Bool) (s : Bytes) (from i : ℕ) : Type 0 where
  pub within : i ≤ max from (length s)
  pub is : i ≡ from + lead p (drop from s)

-- a text all of which passes a test
abbrev pub Simple : (ℕ → Bool) → Bytes → Type 0
Simple p s = lead p s ≡ length s

-- a text that is a `|`, a simple key, `="`, a simple value and `"`
pub record Barred (s : Bytes) : Type 0 where
  pub key : Bytes
  pub value : Bytes
  pub is : s ≡ b "|" ++ (key ++ (b "=\"" ++ (value ++ b "\"")))
  pub some : 0 < length key
  pub simple_key : Simple in_key key
  pub simple_value : Simple in_value value
