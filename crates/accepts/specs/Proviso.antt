-- The proviso of demand 3: "no book code, verse label, marker name or attribute key on the tape holds & < > or a double quote".
use Rattle.std.specs.Prelude.{ℕ, ◌≡◌, Bool, true, false, cond, ◌&&◌, ◌||◌, List, [], ◌∷◌, ◌++◌}
use Rattle.parts.specs.Bytes.{Bytes, b}
use Rattle.chars.specs.Escape.{special}
use Rattle.tape.specs.File.{Tape, kind_at, info_at, bears_marker}
use Rattle.tape.specs.Name.{marker_name}
use Rattle.render.specs.Shape.{is_open, is_verse_of, is_element_of}
use Rattle.render.specs.Label.{label_of}
use Rattle.render.specs.Note.{book_code_of}
use Rattle.attrs.specs.Attr.{Pair, attributes_of}
use Rattle.events.specs.Walk.{Role, unknown_block, unknown_inline, unwritten, figure, ref, id, note, ms, char, para, role_of}
use Rattle.tape.specs.Element as elements

-- ---- the four bytes

-- whether a text holds one of & < > and the double quote: what the escape of a value writes by name
unfoldable pub has_special : Bytes → Bool
has_special [] = false
has_special (x ∷ s) = special true x || has_special s

-- a text that holds none of the four
abbrev pub Free : Bytes → Type 0
Free s = has_special s ≡ false

-- ---- the names of a node

-- what a name is
pub data What : Type 0 where
  code label marker key : What

-- a name of a node: what it is, and its bytes
pub record Name : Type 0 where
  pub what : What
  pub bytes : Bytes

-- a name where a node has it
unfoldable pub name_where : Bool → What → Bytes → List Name
name_where has w s = cond has (record { what = w; bytes = s } ∷ []) []

-- whether a marker is written as the book
unfoldable pub is_id : Role → Bool
is_id unknown_block = false
is_id unknown_inline = false
is_id unwritten = false
is_id figure = false
is_id ref = false
is_id id = true
is_id note = false
is_id ms = false
is_id char = false
is_id para = false

-- whether a node has a book code
unfoldable pub has_code : Tape → ℕ → Bool
has_code t k = is_open t k && is_id (role_of t k)

-- the name by which a marker of this role collects, where its own is given
unfoldable pub collects_for : Role → Bytes → Bytes
collects_for unknown_block name = name
collects_for unknown_inline name = name
collects_for unwritten name = name
collects_for figure name = b "fig"
collects_for ref name = b "ref"
collects_for id name = name
collects_for note name = name
collects_for ms name = name
collects_for char name = name
collects_for para name = name

-- the name by which a node collects its attributes: figures as `fig`, references as `ref`, periphs as `periph`, others by their own; it changes no key that holds one of the four
unfoldable pub collects_as : Tape → ℕ → Bytes
collects_as t k = cond (is_element_of elements.periph (info_at t k)) (b "periph") (collects_for (role_of t k) (marker_name t k))

-- the keys of attributes, as they are written: `src` on `fig` is `file`
unfoldable pub keys_of : List Pair → List Name
keys_of [] = []
keys_of (p ∷ ps) = record { what = key; bytes = p.key } ∷ keys_of ps

-- the names of a node: its book code, its label, its marker name, and each key that it collects, whether it is written or not
unfoldable pub names_of : Tape → ℕ → List Name
names_of t k =
    name_where (has_code t k) code (book_code_of t k)
    ++ (name_where (is_verse_of t k) label (label_of t k)
    ++ (name_where (bears_marker (kind_at t k)) marker (marker_name t k) ++ keys_of (attributes_of t k (collects_as t k))))

-- each of a row of names is free
abbrev pub AllFree : List Name → Type 0
AllFree [] = Unit {0}
AllFree (n ∷ ns) = Free n.bytes × AllFree ns

-- no name of any node holds one of the four
pub record Proviso (t : Tape) : Type 0 where
  pub free : (k : ℕ) → AllFree (names_of t k)
