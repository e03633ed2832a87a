-- Tapes and texts written readably, for tables of examples.
use Rattle.std.specs.Prelude.{List, [], ◌∷◌, ◌++◌, cond, ℕ, zero, suc, ◌+◌, length, eqb}
use Prim.Native.String.{String}
use Rattle.parts.specs.Bytes.{Bytes, b}
use Rattle.tape.specs.Kind as kinds
use Rattle.tape.specs.Flag as flags
use Rattle.tape.specs.Category as categories
use Rattle.tape.specs.Element as elements
use Rattle.admit.specs.Encode.{flagged, entry, file}

-- ---- nodes

-- a node whose span follows the one before it; its link counts from itself, but for a Chapter, whose number it is
pub record Piece : Type 0 where
  pub flags : ℕ
  pub kind : ℕ
  pub marker : ℕ
  pub link : ℕ
  pub text : Bytes

-- its flags, kind, marker, link and text
abbrev pub piece : ℕ → ℕ → ℕ → ℕ → String → List Piece
piece f k m l s = record { flags = f; kind = k; marker = m; link = l; text = b s } ∷ []

-- the marker of no entry
abbrev pub unknown : ℕ
unknown = 99

-- a Text
abbrev pub words : String → List Piece
words = piece 0 kinds.text unknown 0

-- an Attribute
abbrev pub attribute : String → List Piece
attribute = piece 0 kinds.attribute unknown 0

-- an Error
abbrev pub error : String → List Piece
error = piece 0 kinds.error unknown 0

-- a Chapter, by its marker and its number
abbrev pub chapter : ℕ → ℕ → String → List Piece
chapter m n = piece 0 kinds.chapter m n

-- a Verse
abbrev pub verse : ℕ → String → List Piece
verse m = piece 0 kinds.verse m 0

-- a MarkerOpen that links to itself
abbrev pub leaf : ℕ → String → List Piece
leaf m = piece 0 kinds.marker_open m 0

-- a MarkerOpen and its close around others: the flags of the first, the kind and flags of the second
abbrev pub around : ℕ → ℕ → ℕ → ℕ → String → List Piece → List Piece
around f k g m s ps = piece f kinds.marker_open m (length ps + 1) s ++ ps ++ piece g k m 0 ""

-- with a BlockEnd
abbrev pub block : ℕ → String → List Piece → List Piece
block = around 0 kinds.block_end_of 0

-- with a MarkerClose
abbrev pub inline : ℕ → String → List Piece → List Piece
inline = around 0 kinds.marker_close 0

-- the same, nested
abbrev pub nested : ℕ → String → List Piece → List Piece
nested = around flags.nested kinds.marker_close 0

-- the same with a synthetic close
abbrev pub unclosed : ℕ → String → List Piece → List Piece
unclosed = around 0 kinds.marker_close flags.synthetic

-- from an index and a place of the source on
abbrev pub nodes : ℕ → ℕ → List Piece → List Bytes
nodes k at [] = []
nodes k at (p ∷ ps) =
    flagged p.flags p.kind p.marker (cond (eqb p.kind kinds.chapter) p.link (k + p.link)) at (length p.text)
    ∷ nodes (k + 1) (at + length p.text) ps

-- the texts one behind the other
abbrev pub source : List Piece → Bytes
source [] = []
source (p ∷ ps) = p.text ++ source ps

-- ---- entries

-- an entry whose name follows the one before it
pub record Marker : Type 0 where
  pub name : Bytes
  pub category : ℕ
  pub element : ℕ

-- a name, its category and its element
abbrev pub marker : String → ℕ → ℕ → Marker
marker s c e = record { name = b s; category = c; element = e }

-- from a place of the names on
abbrev pub entries : ℕ → List Marker → List Bytes
entries at [] = []
entries at (m ∷ ms) = entry at (length m.name) m.category m.element ∷ entries (at + length m.name) ms

-- the names one behind the other
abbrev pub names : List Marker → Bytes
names [] = []
names (m ∷ ms) = m.name ++ names ms

-- Root and its children, with these entries
abbrev pub tape : List Marker → List Piece → Bytes
tape ms ps = file (nodes 0 0 (piece 0 kinds.root unknown (length ps + 1) "" ++ ps)) (entries 0 ms) (names ms) (source ps)

-- ---- texts

-- usx around the bytes of blocks
abbrev pub usx_of : Bytes → Bytes
usx_of s = b "<usx version=\"3.0\">" ++ (s ++ b "\n</usx>")

-- the text around what is quoted
abbrev pub usx : String → Bytes
usx s = usx_of (b s)

-- one paragraph
abbrev pub para : String → Bytes
para s = usx_of (b "\n  <para style=\"p\">" ++ (b s ++ b "</para>"))

-- so many times the same bytes
abbrev pub times : ℕ → Bytes → Bytes
times zero s = []
times (suc n) s = s ++ times n s

-- ---- the entries of every tape of the tables

-- `id`, of category Identification
abbrev pub id : ℕ
id = 0

-- `usfm`, of category Identification
abbrev pub usfm : ℕ
usfm = 1

-- `c`, of category Chapter
abbrev pub c : ℕ
c = 2

-- `v`, of category Verse
abbrev pub v : ℕ
v = 3

-- `p`, of category Paragraph
abbrev pub p : ℕ
p = 4

-- `cp`, of category Paragraph
abbrev pub cp : ℕ
cp = 5

-- `va`, of category Paragraph
abbrev pub vb : ℕ
vb = 6

-- `tr`, of category Paragraph, element row
abbrev pub tr : ℕ
tr = 7

-- `nd`, of category Character
abbrev pub nd : ℕ
nd = 8

-- `xt`, of category Character
abbrev pub xt : ℕ
xt = 9

-- `ref`, of category Character
abbrev pub ref : ℕ
ref = 10

-- `va`, of category Character
abbrev pub va : ℕ
va = 11

-- `vp`, of category Character
abbrev pub vp : ℕ
vp = 12

-- `ca`, of category Character
abbrev pub ca : ℕ
ca = 13

-- `cat`, of category Character
abbrev pub cat : ℕ
cat = 14

-- `fig`, of category Character
abbrev pub fig : ℕ
fig = 15

-- `tc`, of category Character
abbrev pub tc : ℕ
tc = 16

-- `f`, of category Note
abbrev pub f : ℕ
f = 17

-- `ts`, of category Milestone
abbrev pub ts : ℕ
ts = 18

-- `esb`, of category Other, element sidebar
abbrev pub esb : ℕ
esb = 19

-- `periph`, of category Other, element periph
abbrev pub periph : ℕ
periph = 20

-- `w`, of category Character
abbrev pub w : ℕ
w = 21

-- these entries, in the order of their numbers
abbrev pub markers : List Marker
markers =
    marker "id" categories.identification elements.other
    ∷ marker "usfm" categories.identification elements.other
    ∷ marker "c" categories.chapter elements.other
    ∷ marker "v" categories.verse elements.other
    ∷ marker "p" categories.paragraph elements.other
    ∷ marker "cp" categories.paragraph elements.other
    ∷ marker "va" categories.paragraph elements.other
    ∷ marker "tr" categories.paragraph elements.row
    ∷ marker "nd" categories.character elements.other
    ∷ marker "xt" categories.character elements.other
    ∷ marker "ref" categories.character elements.other
    ∷ marker "va" categories.character elements.other
    ∷ marker "vp" categories.character elements.other
    ∷ marker "ca" categories.character elements.other
    ∷ marker "cat" categories.character elements.other
    ∷ marker "fig" categories.character elements.other
    ∷ marker "tc" categories.character elements.other
    ∷ marker "f" categories.note elements.other
    ∷ marker "ts" categories.milestone elements.other
    ∷ marker "esb" categories.other elements.sidebar
    ∷ marker "periph" categories.other elements.periph
    ∷ marker "w" categories.character elements.other
    ∷ []

-- Root and its children
abbrev pub file_of : List Piece → Bytes
file_of = tape markers
