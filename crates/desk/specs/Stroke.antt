-- Strokes: the seam between what is written and how it looks. Items are rows of strokes.
use Rattle.std.specs.Prelude.{◌≡◌, Bool, true, false, cond, List, [], ◌∷◌, ◌++◌, ℕ}
use Rattle.parts.specs.Bytes.{Bytes, b}
use Rattle.chars.specs.Escape.{escape}
use Rattle.tags.specs.Names.{name_of}
use Rattle.tags.specs.Items.{Attr, Item, start, empty, close, text, line, new_line}
use Rattle.events.specs.Profile.{Profile, rust}
use Rattle.events.specs.Emit.{Desk}
use Rattle.desk.specs.declared.Desk.{Desk as Held}
use Rattle.desk.specs.Desk.{desk_of, put_on}

-- the front of a tag, a key, a piece of its value (a name, as it is, or with its escapes), the value's end, the two ends of a tag, a closing tag, a piece of text, a new line
pub data Stroke : Type 0 where
  opens : ℕ → Stroke
  key : Bytes → Stroke
  piece : Bool → Bytes → Stroke
  end_value_of ends shuts : Stroke
  closes : ℕ → Stroke
  words : Bytes → Stroke
  breaks : ℕ → Stroke

-- ---- items are strokes

-- a key, its value in one piece, the value's end
unfoldable pub strokes_of_attr : Attr → List Stroke
strokes_of_attr a = key a.key ∷ piece a.raw a.value ∷ end_value_of ∷ []

-- attributes in a row
unfoldable pub strokes_of_attrs : List Attr → List Stroke
strokes_of_attrs [] = []
strokes_of_attrs (a ∷ qs) = strokes_of_attr a ++ strokes_of_attrs qs

-- an item
unfoldable pub strokes_of : Item → List Stroke
strokes_of (start n qs) = opens n ∷ (strokes_of_attrs qs ++ (ends ∷ []))
strokes_of (empty n qs) = opens n ∷ (strokes_of_attrs qs ++ (shuts ∷ []))
strokes_of (close n) = closes n ∷ []
strokes_of (text t) = words t ∷ []
strokes_of (line d) = breaks d ∷ []

-- items in a row
unfoldable pub strokes_of_all : List Item → List Stroke
strokes_of_all [] = []
strokes_of_all (i ∷ is) = strokes_of i ++ strokes_of_all is

-- ---- how a stroke looks

-- the bytes of a stroke in a profile: in XML, as the Rust writes them
unfoldable pub ink : Profile → Stroke → Bytes
ink rust (opens n) = b "<" ++ name_of n
ink rust (key k) = b " " ++ (k ++ b "=\"")
ink rust (piece raw v) = cond raw v (escape true v)
ink rust end_value_of = b "\""
ink rust ends = b ">"
ink rust shuts = b " />"
ink rust (closes n) = b "</" ++ (name_of n ++ b ">")
ink rust (words t) = escape false t
ink rust (breaks d) = new_line d

-- strokes in a row
unfoldable pub ink_all : Profile → List Stroke → Bytes
ink_all p [] = []
ink_all p (s ∷ ss) = ink p s ++ ink_all p ss

-- ---- strokes on a desk

-- strokes more, which open and end no chapter and no verse
unfoldable pub strokes : Desk → List Stroke → Desk
strokes w ss = put_on w (ink_all w.profile ss)

-- from one desk and buffer to others by strokes, whatever the source is
pub record Drew (d : Held) (out : Bytes) (ss : List Stroke) (last-d : Held) (last : Bytes) : Type 0 where
  pub on : (source : Bytes) → desk_of source last-d last ≡ strokes (desk_of source d out) ss
