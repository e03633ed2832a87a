-- What a node is: its shape, inline or a block, a row, a category marker, blank, content.
use Rattle.std.specs.Prelude.{ℕ, Bool, true, false, cond, not, ◌&&◌, ◌||◌, eqb, None, Some}
use Rattle.parts.specs.Bytes.{b, same}
use Rattle.words.specs.Words.{is_blank_of as blank}
use Rattle.words.specs.declared.Set.TheVariants.{Unicode}
use Rattle.tape.specs.File.{Tape, node_at, kind_at, text_at_of, info_at, entry_name}
use Rattle.tape.specs.Tree.{is_close}
use Rattle.tape.specs.Name.{marker_name}
use Rattle.tape.specs.Found.{Info}
use Rattle.render.specs.declared.shape.Shape.{Shape}
use Rattle.render.specs.declared.shape.Shape.TheVariants.{Block, Inline, Leaf, Other}
use Rattle.tape.specs.Kind as kinds
use Rattle.tape.specs.Category as categories
use Rattle.tape.specs.Element as elements

-- ---- kinds

-- whether a node is a Text
abbrev pub is_text : Tape → ℕ → Bool
is_text t k = eqb (kind_at t k) kinds.text

-- whether a node is an Attribute
abbrev pub is_attribute : Tape → ℕ → Bool
is_attribute t k = eqb (kind_at t k) kinds.attribute

-- MarkerOpen
abbrev pub is_open : Tape → ℕ → Bool
is_open t k = eqb (kind_at t k) kinds.marker_open

-- whether a node is a Chapter
abbrev pub is_chapter_of : Tape → ℕ → Bool
is_chapter_of t k = eqb (kind_at t k) kinds.chapter

-- whether a node is a Verse
abbrev pub is_verse_of : Tape → ℕ → Bool
is_verse_of t k = eqb (kind_at t k) kinds.verse

-- whether a node is an Error
abbrev pub is_error : Tape → ℕ → Bool
is_error t k = eqb (kind_at t k) kinds.error

-- ---- unknown markers

-- `unknown_shape`, by the kind of the matching close: a BlockEnd makes a block, a MarkerClose an inline marker, anything else a leaf
unfoldable pub closed_by : ℕ → Shape
closed_by kind = cond (eqb kind kinds.block_end_of) Block (cond (eqb kind kinds.marker_close) Inline Leaf)

-- the shape of a MarkerOpen by its entry: of one that is unknown, by the kind of its close
unfoldable pub shape_by : Tape → ℕ → Info → Shape
shape_by t k (Some e) = Other
shape_by t k None = closed_by (kind_at t (node_at t k).link)

-- `unknown_shape`: the shape of a MarkerOpen without an entry; Other for anything else
unfoldable pub unknown_shape_of : Tape → ℕ → Shape
unknown_shape_of t k = cond (is_open t k) (shape_by t k (info_at t k)) Other

-- whether an unknown marker is inline
unfoldable pub is_inline_shape : Shape → Bool
is_inline_shape Block = false
is_inline_shape Inline = true
is_inline_shape Leaf = false
is_inline_shape Other = false

-- whether an unknown marker is a block
unfoldable pub is_block_shape : Shape → Bool
is_block_shape Block = true
is_block_shape Inline = false
is_block_shape Leaf = false
is_block_shape Other = false

-- ---- inline, or a block

-- the categories of markers that run inside text: Character, Note, Milestone
unfoldable pub inline_category : ℕ → Bool
inline_category code = eqb code categories.character || (eqb code categories.note || eqb code categories.milestone)

-- a marker runs inside text by its category, or by its shape
unfoldable pub inline_marker : Tape → ℕ → Info → Bool
inline_marker t k (Some e) = inline_category e.category.code
inline_marker t k None = is_inline_shape (unknown_shape_of t k)

-- `is_inline`: a Text, a Verse, or a marker that runs inside text
unfoldable pub is_inline_of : Tape → ℕ → Bool
is_inline_of t k = is_text t k || (is_verse_of t k || (is_open t k && inline_marker t k (info_at t k)))

-- a marker is a block if its entry is not `usfm` and does not run inside text, or by its shape
unfoldable pub block_marker : Tape → ℕ → Info → Bool
block_marker t k (Some e) = not (same (entry_name t e) (b "usfm")) && not (inline_category e.category.code)
block_marker t k None = is_block_shape (unknown_shape_of t k)

-- `is_top_level_block`: a Chapter, or a marker that is a block
unfoldable pub is_top_level_block_of : Tape → ℕ → Bool
is_top_level_block_of t k = is_chapter_of t k || (is_open t k && block_marker t k (info_at t k))

-- `trim_leading`, as one bit of the sibling before: no space is kept behind a Chapter, a Verse or anything not inline
unfoldable pub trims_after_of : Tape → ℕ → Bool
trims_after_of t k = is_chapter_of t k || (is_verse_of t k || not (is_inline_of t k))

-- ---- by element code and by name

-- whether there is an entry with this element code
unfoldable pub is_element_of : ℕ → Info → Bool
is_element_of code (Some e) = eqb e.element.code code
is_element_of code None = false

-- `is_table_row`: a MarkerOpen whose entry has the row code
unfoldable pub is_row : Tape → ℕ → Bool
is_row t k = is_open t k && is_element_of elements.row (info_at t k)

-- `is_category_marker`: a MarkerOpen that the source names `cat`
unfoldable pub is_category_marker_of : Tape → ℕ → Bool
is_category_marker_of t k = is_open t k && same (marker_name t k) (b "cat")

-- ---- texts and content

-- `is_blank`: a Text of white space alone, or empty; Unicode
unfoldable pub is_blank_text : Tape → ℕ → Bool
is_blank_text t k = is_text t k && blank Unicode (text_at_of t k)

-- what `has_content` counts: anything but attributes, closes and blank texts
unfoldable pub is_content_of : Tape → ℕ → Bool
is_content_of t k = not (is_attribute t k || (is_close (kind_at t k) || is_blank_text t k))
