-- What follows a node: the next solid sibling, and whether it is inline.
use Rattle.std.specs.Prelude.{ℕ, Bool, false, not, ◌&&◌, ◌||◌, ◌≡◌, ◌⊎◌, None, Some}
use Rattle.words.specs.Words.{is_blank_of as blank}
use Rattle.words.specs.declared.Set.TheVariants.{Ascii}
use Rattle.tape.specs.File.{Tape, text_at_of}
use Rattle.tape.specs.Tree.{siblings}
use Rattle.tape.specs.declared.Cursor.{Cursor}
use Rattle.tape.specs.Found.{Step}
use Rattle.render.specs.First.{first_with}
use Rattle.render.specs.Shape.{is_text, is_attribute, is_error, is_inline_of}

-- what `inline_follows` does not pass over: Attribute, Error and Text of ASCII white space alone are passed over
unfoldable pub is_solid : Tape → ℕ → Bool
is_solid t k = not (is_attribute t k || (is_error t k || (is_text t k && blank Ascii (text_at_of t k))))

-- the first later sibling that is not passed over; the siblings are the real ones, neither cut nor filtered
unfoldable pub next_solid_of : Tape → ℕ → Step
next_solid_of t k = first_with (is_solid t) (siblings t k)

-- whether a step leads to an inline node
unfoldable pub inline_at_of : Tape → Step → Bool
inline_at_of t None = false
inline_at_of t (Some c) = is_inline_of t c.at

-- `inline_follows`: the first later sibling that is not passed over is inline
unfoldable pub inline_follows_of : Tape → ℕ → Bool
inline_follows_of t k = inline_at_of t (next_solid_of t k)

-- `parent_followed`: a parent is followed if it is inline and inline content follows it, or follows its own parent
unfoldable pub followed : Tape → ℕ → Bool → Bool
followed t k outer = is_inline_of t k && (outer || inline_follows_of t k)

-- a step kept from the child before: this very child, or the solid sibling behind it
abbrev pub Kept : Tape → Cursor → Step → Type 0
Kept t c kept = (kept ≡ Some c) ⊎ (kept ≡ next_solid_of t c.at)
