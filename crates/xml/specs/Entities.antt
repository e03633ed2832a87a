-- The predefined entities of XML 1.0, section 4.6, and reading references to them back.
use Rattle.std.specs.Prelude.{ℕ, zero, suc, ◌-◌, List, [], ◌∷◌, ◌++◌, cond, length}
use Rattle.std.proofs.Math.Option.{Option, none, some}
use Rattle.parts.specs.Bytes.{Bytes, b, begins}

-- an entity: its name, and the character that it stands for
pub record Entity : Type 0 where
  pub name : Bytes
  pub stands : ℕ

-- the less-than sign
abbrev pub lt : Entity
lt = record { name = b "lt"; stands = 60 }

-- the greater-than sign
abbrev pub gt : Entity
gt = record { name = b "gt"; stands = 62 }

-- the ampersand
abbrev pub amp : Entity
amp = record { name = b "amp"; stands = 38 }

-- the apostrophe, which the text never needs
abbrev pub apos : Entity
apos = record { name = b "apos"; stands = 39 }

-- the double quote
abbrev pub quot : Entity
quot = record { name = b "quot"; stands = 34 }

-- section 4.6: all processors recognize these five
abbrev pub predefined : List Entity
predefined = lt ∷ gt ∷ amp ∷ apos ∷ quot ∷ []

-- production 68: `&`, the name, `;`
abbrev pub reference : Entity → Bytes
reference e = b "&" ++ (e.name ++ b ";")

-- the first of some entities whose reference a text begins with
unfoldable pub reference_at : List Entity → Bytes → Option Entity
reference_at [] s = none
reference_at (e ∷ es) s = cond (begins (reference e) s) (some e) (reference_at es s)

-- what is read for the first byte of a text: the character of a reference, or the byte itself
unfoldable pub read_as : ℕ → Option Entity → ℕ
read_as x none = x
read_as x (some e) = e.stands

-- how many bytes behind the first belong to what was read
unfoldable pub read_past : Option Entity → ℕ
read_past none = 0
read_past (some e) = length (reference e) - 1

-- a text read from the front, where so many bytes belong to a reference that is read already
unfoldable pub read_from : ℕ → Bytes → Bytes
read_from k [] = []
read_from (suc k) (x ∷ s) = read_from k s
read_from zero (x ∷ s) = let r = reference_at predefined (x ∷ s) in read_as x r ∷ read_from (read_past r) s

-- a text with every reference to a predefined entity replaced by its character
unfoldable pub read_back_of : Bytes → Bytes
read_back_of s = read_from 0 s
