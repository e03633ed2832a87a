-- The bytes that an escape leaves as they are.
use Rattle.std.specs.Prelude.{ℕ, ◌+◌, ◌≤◌, ◌≡◌, Bool, false, cond, ◌||◌, [], ◌∷◌, length, get_or, drop, eqb}
use Rattle.parts.specs.Bytes.{Bytes, b, first_at}
use Rattle.chars.specs.Escape.{special}

-- whether a text has a byte that is written by name
unfoldable pub any_special : Bool → Bytes → Bool
any_special attr [] = false
any_special attr (x ∷ s) = special attr x || any_special attr s

-- how many bytes from the front on are written as they are
unfoldable pub plain_len : Bool → Bytes → ℕ
plain_len attr s = first_at (λ r. special attr (get_or r 0 0)) s

-- a place of a text up to which all bytes are written as they are
pub record PlainTo (attr : Bool) (s : Bytes) (i : ℕ) : Type 0 where
  pub within : i ≤ length s
  pub rest : i + plain_len attr (drop i s) ≡ plain_len attr s

-- the name of a byte that has one
unfoldable pub entity_of : ℕ → Bytes
entity_of x = cond (eqb x 60) (b "&lt;") (cond (eqb x 62) (b "&gt;") (cond (eqb x 38) (b "&amp;") (b "&quot;")))
