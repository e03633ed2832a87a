-- The sixteen elements, by number from 1 in document 01's order.
use Rattle.std.specs.Prelude.{ℕ, suc, ◌≤◌, List, [], ◌∷◌, cond, length, get_or}
use Rattle.parts.specs.Bytes.{Bytes, b, begins}
use Rattle.tags.specs.declared.Named.{Named}
use Rattle.tags.specs.declared.Named.TheVariants.{Name, Unnamed}

-- the names, in order
abbrev pub names : List Bytes
names =
    b "usx"
    ∷ b "book"
    ∷ b "chapter"
    ∷ b "verse"
    ∷ b "para"
    ∷ b "char"
    ∷ b "note"
    ∷ b "ms"
    ∷ b "figure"
    ∷ b "table"
    ∷ b "row"
    ∷ b "cell"
    ∷ b "sidebar"
    ∷ b "periph"
    ∷ b "optbreak"
    ∷ b "ref"
    ∷ []

-- the name of an element, and nothing for another number
unfoldable pub name_of : ℕ → Bytes
name_of n = get_or ([] ∷ names) n []

-- the number of an element
pub record IsName (n : ℕ) : Type 0 where
  pub one : 1 ≤ n
  pub sixteen : n ≤ 16

-- the first of the words that the text begins with, by number and length; no name begins another
unfoldable pub which : ℕ → List Bytes → Bytes → Named
which k [] s = Unnamed
which k (w ∷ ws) s = cond (begins w s) (Name k (length w)) (which (suc k) ws s)

-- the element whose name a text begins with
unfoldable pub element_at : Bytes → Named
element_at s = which 1 names s
