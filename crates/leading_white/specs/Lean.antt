-- Texts with one white byte in front at most, and the table that finds them.
use Rattle.std.specs.Prelude.{Bool, false, cond, ◌&&◌, List, [], ◌∷◌, ℕ}
use Rattle.parts.specs.Bytes.{Bytes}
use Rattle.chars.specs.Space.{is_ascii_white}
use Rattle.tape.specs.File.{Tape}
use Rattle.source_index.specs.Seek.{Right}
use Rattle.source_index.specs.declared.Test.TheVariants.{Solid}

-- whether a text begins with two ASCII white bytes
unfoldable pub is_wide : Bytes → Bool
is_wide [] = false
is_wide (x ∷ []) = false
is_wide (x ∷ y ∷ s) = is_ascii_white x && is_ascii_white y

-- a text of whose first ASCII white bytes only the last is left
unfoldable pub lean : Bytes → Bytes
lean [] = []
lean (x ∷ []) = x ∷ []
lean (x ∷ y ∷ s) = cond (is_ascii_white x && is_ascii_white y) (lean (y ∷ s)) (x ∷ y ∷ s)

-- a table of the places where the source has a byte that is no ASCII white space
abbrev pub Solids : Tape → List ℕ → Type 0
Solids t table = Right Solid t.source table
