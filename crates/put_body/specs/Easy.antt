-- A text that is its own body and is written as it stands.
use Rattle.std.specs.Prelude.{ℕ, zero, suc, ◌≤◌, ◌≡◌, Bool, false, cond, not, ◌&&◌, ◌||◌, [], ◌∷◌, ◌++◌, length, get_or, drop, eqb, leb}
use Rattle.parts.specs.Bytes.{Bytes}
use Rattle.words.specs.Words.{trim}
use Rattle.words.specs.declared.Set.TheVariants.{Ascii}
use Rattle.texts.specs.Text.{space_if}
use Rattle.texts.specs.declared.Normalized.{Normalized}
use Rattle.put_body.specs.Body.{odd}

-- whether a byte before another may be written otherwise, or begin a `//`: it is below the space, a space before no byte above it, `~`, `/`, or has a name
unfoldable pub hard : ℕ → ℕ → Bool
hard x y = odd x y || (eqb x 47 || (eqb x 60 || (eqb x 62 || eqb x 38)))

-- whether one of a text's bytes may; behind the last stands nothing
unfoldable pub any_hard : Bytes → Bool
any_hard [] = false
any_hard (x ∷ s) = hard x (get_or s 0 0) || any_hard s

-- a text with no such byte, and no space in front
unfoldable pub easy : Bytes → Bool
easy s = not (eqb (get_or s 0 0) 32 || any_hard s)

-- a text that is not empty and easy
unfoldable pub tight : Bytes → Bool
tight s = not (eqb (length s) 0) && easy s

-- whether one of a text's first bytes is hard
unfoldable pub hard_front : ℕ → Bytes → Bool
hard_front zero s = false
hard_front (suc k) [] = false
hard_front (suc k) (x ∷ s) = hard x (get_or s 0 0) || hard_front k s

-- whether a byte before another is hard as number j of n bytes: it is one of them, and behind the last stands nothing
unfoldable pub hard_as_of : ℕ → ℕ → ℕ → ℕ → Bool
hard_as_of j n x y = leb j n && hard x (cond (eqb j n) 0 y)

-- a place of a text before which no byte is hard
pub record EasyTo (s : Bytes) (i : ℕ) : Type 0 where
  pub within : i ≤ length s
  pub rest : any_hard (drop i s) ≡ any_hard s

-- a text without white space at its edges
unfoldable pub inner_of : Bytes → Bytes
inner_of s = trim Ascii s

-- a body with its lead and trail
unfoldable pub edged : Bytes → Normalized → Bytes
edged body n = space_if n.lead ++ (body ++ space_if n.trail)
