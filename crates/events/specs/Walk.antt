-- The events of a tape: white space, attributes, folding. Depth is fuel: 64 is enough for every admitted tape, and more changes nothing.
use Rattle.std.specs.Prelude.{ℕ, zero, suc, ◌+◌, List, [], ◌∷◌, ◌++◌, Bool, true, false, cond, not, ◌&&◌, ◌||◌, length, eqb, None, Some}
use Rattle.std.proofs.Math.Option.{Option, none, some}
use Rattle.parts.specs.Bytes.{Bytes, b, same}
use Rattle.texts.specs.Text.{body_of, has_break, normalize_text, written, segments}
use Rattle.texts.specs.declared.Normalized.{Normalized}
use Rattle.tape.specs.File.{Tape, kind_at, node_at, text_at_of, info_at, is_synthetic, is_nested, number_at, entry_name}
use Rattle.tape.specs.Tree.{children, first_child, up_to, without, found, from_first}
use Rattle.tape.specs.Name.{marker_name}
use Rattle.tape.specs.Found.{Info}
use Rattle.tape.specs.Found.{Step}
use Rattle.render.specs.Shape.{is_open, is_chapter_of, is_verse_of, is_row, is_element_of, is_top_level_block_of, is_category_marker_of, trims_after_of, unknown_shape_of}
use Rattle.render.specs.First.{any}
use Rattle.render.specs.Follow.{inline_follows_of, followed}
use Rattle.render.specs.Children.{has_content_of}
use Rattle.render.specs.Label.{label_of}
use Rattle.render.specs.Note.{note_caller_of, remainder, written_category, book_code_of, book_rest_of, periph_alt, cell_align_of, align_word}
use Rattle.render.specs.declared.shape.Shape.{Shape}
use Rattle.render.specs.declared.shape.Shape.TheVariants.{Block, Inline, Leaf, Other}
use Rattle.attrs.specs.Attr.{attributes_of}
use Rattle.attrs.specs.Walk.{first_of}
use Rattle.fold.specs.Fold.{fold_at}
use Rattle.figure.specs.Figure.{legacy_at, legacy_pairs, caption_of}
use Rattle.tags.specs.Items.{Attr, start, empty, close, text, line}
use Rattle.events.specs.Event.{Event, item, chapter, verse, book, rawly, escaped, perhaps, collected, element, asided, besides}
use Rattle.tape.specs.Kind as kinds
use Rattle.tape.specs.Category as categories
use Rattle.tape.specs.Element as elements
use Rattle.tags.specs.Element as el

-- ---- texts

-- a text where it shows: lead, body and trail
unfoldable pub unbroken : Bytes → Normalized → List Event
unbroken s n = cond n.shows (item (text (written s n)) ∷ []) []

-- segments behind the first, `<optbreak />` before each
unfoldable pub breaks : List Bytes → List Event
breaks [] = []
breaks (g ∷ gs) = item (empty el.optbreak []) ∷ item (text g) ∷ breaks gs

-- all segments
unfoldable pub segmented : List Bytes → List Event
segmented [] = []
segmented (g ∷ gs) = item (text g) ∷ breaks gs

-- "a body holding `//` loses its edge spaces, is split there .. with `<optbreak />` between"
unfoldable pub broken : Bytes → Normalized → List Event
broken s n = cond (has_break (body_of s)) (segmented (segments s)) (unbroken s n)

-- ---- attributes

-- the style of a marker: its name in the source
unfoldable pub style : Tape → ℕ → Attr
style t k = rawly (b "style") (marker_name t k)

-- a style that the source does not name
unfoldable pub styled : Bytes → List Attr
styled name = rawly (b "style") name ∷ []

-- `closed="false"` where the matching close is synthetic; a leaf's close is itself
unfoldable pub unclosed : Tape → ℕ → List Attr
unclosed t k = cond (is_synthetic t (node_at t k).link) (escaped (b "closed") (b "false") ∷ []) []

-- ---- one node

-- how the children of a container are written
pub data Manner : Type 0 where
  as_inline as_note : Manner

-- what a MarkerOpen is written as
pub data Role : Type 0 where
  unknown_block unknown_inline unwritten figure ref id note ms char para : Role

-- an unknown marker by its shape: a leaf is not written
unfoldable pub role_of_shape : Shape → Role
role_of_shape Block = unknown_block
role_of_shape Inline = unknown_inline
role_of_shape Leaf = unwritten
role_of_shape Other = unwritten

-- a known marker by its category: Note, Milestone, Character, else a paragraph
unfoldable pub role_of_category : ℕ → Role
role_of_category category = cond (eqb category categories.note) note (cond (eqb category categories.milestone) ms (cond (eqb category categories.character) char para))

-- `write_node`: unknown by shape; by the entry's name `usfm` and `fig`; by the name in the source `ref`; `id`; by category
unfoldable pub role_by : Tape → ℕ → Info → Role
role_by t k None = role_of_shape (unknown_shape_of t k)
role_by t k (Some e) =
    cond (same (entry_name t e) (b "usfm")) unwritten
    (cond (same (entry_name t e) (b "fig")) figure
    (cond (same (marker_name t k) (b "ref")) ref
    (cond (eqb e.category.code categories.identification && same (entry_name t e) (b "id")) id (role_of_category e.category.code))))

-- the role of a node
unfoldable pub role_of : Tape → ℕ → Role
role_of t k = role_by t k (info_at t k)

-- a child that the source names `ref`
unfoldable pub is_ref : Tape → ℕ → Bool
is_ref t k = is_open t k && same (marker_name t k) (b "ref")

-- what could be linked: `xt`, nested, with content and no `ref` inside
unfoldable pub can_link : Tape → ℕ → Bool
can_link t k = same (marker_name t k) (b "xt") && (is_nested t k && (has_content_of t k && not (any (is_ref t) (children t k))))

-- the first `href` of what could be linked
unfoldable pub link_of : Tape → ℕ → Option Bytes
link_of t k = cond (can_link t k) (first_of (b "href") (attributes_of t k (marker_name t k))) none

-- its content then stands in a `ref`
unfoldable pub linked : Option Bytes → List Event → List Event
linked none es = es
linked (some loc) es = element el.ref (escaped (b "loc") loc ∷ []) es

-- `write_figure`: the positional form of old writes no child
unfoldable pub figure_as : (Manner → ℕ → Bool → List Event) → Tape → ℕ → Bool → Step → List Event
figure_as inside t k outer (Some a) = asided (element el.figure (styled (b "fig") ++ collected (legacy_pairs t k a.at)) (item (text (caption_of t a.at)) ∷ []))
figure_as inside t k outer None = asided (element el.figure (styled (b "fig") ++ collected (attributes_of t k (b "fig"))) (inside as_inline k outer))

-- a MarkerOpen by its role; `inside` has the events inside a container, `outer` says whether inline content follows the parent
unfoldable pub marker_as : (Manner → ℕ → Bool → List Event) → Tape → ℕ → Bool → Role → List Event
marker_as inside t k outer unknown_block = element el.para (style t k ∷ escaped (b "status") (b "unknown") ∷ []) (inside as_inline k outer)
marker_as inside t k outer unknown_inline = element el.char (style t k ∷ escaped (b "status") (b "unknown") ∷ []) (inside as_inline k outer)
marker_as inside t k outer unwritten = []
marker_as inside t k outer figure = figure_as inside t k outer (legacy_at t k)
marker_as inside t k outer ref = element el.ref (perhaps (b "loc") (first_of (b "loc") (attributes_of t k (b "ref")))) (inside as_inline k outer)
marker_as inside t k outer id = book (book_code_of t k) (book_rest_of t k) ∷ []
marker_as inside t k outer note =
    asided (element el.note (escaped (b "caller") (note_caller_of t k) ∷ style t k ∷ perhaps (b "category") (written_category t k)) (inside as_note k outer))
marker_as inside t k outer ms = item (empty el.ms (style t k ∷ collected (attributes_of t k (marker_name t k)))) ∷ []
marker_as inside t k outer char =
    element el.char (style t k ∷ (unclosed t k ++ collected (attributes_of t k (marker_name t k)))) (linked (link_of t k) (inside as_inline k outer))
marker_as inside t k outer para =
    cond (found (first_child t k)) (element el.para (style t k ∷ []) (inside as_inline k outer)) (item (empty el.para (style t k ∷ [])) ∷ [])

-- one node that is no text; a Chapter or Verse here folds nothing
unfoldable pub node_in_of : (Manner → ℕ → Bool → List Event) → Tape → ℕ → Bool → List Event
node_in_of inside t k outer =
    cond (is_chapter_of t k) (chapter (number_at t k) none none ∷ [])
    (cond (is_verse_of t k) (verse (label_of t k) none none ∷ [])
    (cond (is_open t k) (marker_as inside t k outer (role_of t k)) []))

-- ---- children

-- at block level, and in a cell, no inline content follows the parent
abbrev pub unfollowed : Bool
unfollowed = false

-- the first text of a list loses its leading space
abbrev pub trimming : Bool
trimming = true

-- what a child is to its list
pub data Child : Type 0 where
  anchor words passed marker : Child

-- a Verse is an anchor, a Text words; Attribute and Error are passed over; any other is entered as a marker
unfoldable pub child_of : ℕ → Child
child_of kind = cond (eqb kind kinds.verse) anchor (cond (eqb kind kinds.text) words (cond (eqb kind kinds.attribute || eqb kind kinds.error) passed marker))

-- what a child is to a note
pub data NoteChild : Type 0 where
  direct left_out entered : NoteChild

-- `cat`, Attribute and Error are left out; a Verse is entered as a marker is, and folds nothing
unfoldable pub note_child_of : Tape → ℕ → NoteChild
note_child_of t k =
    cond (is_category_marker_of t k) left_out
    (cond (eqb (kind_at t k) kinds.text) direct (cond (eqb (kind_at t k) kinds.attribute || eqb (kind_at t k) kinds.error) left_out entered))

-- one turn along a list: what is written, whether a text behind it loses its leading space, and where the list goes on
pub record Turn : Type 0 where
  pub written : List Event
  pub trim : Bool
  pub rest : List ℕ

-- a text in a list: `write_children`
unfoldable pub normalized : Tape → ℕ → Bytes → Bool → Bool → Normalized
normalized t k s trim behind = normalize_text s (not trim) (inline_follows_of t k || behind)

-- `behind`: whether inline content follows the parent
unfoldable pub inline_turn : (ℕ → Bool → List Event) → Tape → Bool → Bool → ℕ → List ℕ → Child → Turn
inline_turn node t behind trim k ks anchor =
    let f = fold_at t kinds.verse ks in record { written = verse (label_of t k) f.alt f.published ∷ []; trim = true; rest = f.rest }
inline_turn node t behind trim k ks words =
    let n = normalized t k (text_at_of t k) trim behind in
    record { written = broken (text_at_of t k) n; trim = trim && not n.shows; rest = ks }
inline_turn node t behind trim k ks passed = record { written = []; trim = trim; rest = ks }
inline_turn node t behind trim k ks marker = record { written = node k behind; trim = trims_after_of t k; rest = ks }

-- the events of a list of inline children, in at most so many turns
unfoldable pub inline_from : (ℕ → Bool → List Event) → Tape → Bool → ℕ → Bool → List ℕ → List Event
inline_from node t behind zero trim ks = []
inline_from node t behind (suc n) trim [] = []
inline_from node t behind (suc n) trim (k ∷ ks) =
    let r = inline_turn node t behind trim k ks (child_of (kind_at t k)) in r.written ++ inline_from node t behind n r.trim r.rest

-- the events of a list of inline children
unfoldable pub inline_all : (ℕ → Bool → List Event) → Tape → Bool → Bool → List ℕ → List Event
inline_all node t behind trim ks = inline_from node t behind (length ks) trim ks

-- what a child writes, and the list behind it
unfoldable pub inline_on : (ℕ → Bool → List Event) → Tape → Bool → Bool → ℕ → List ℕ → Child → List Event
inline_on node t behind trim k ks c =
    let r = inline_turn node t behind trim k ks c in r.written ++ inline_all node t behind r.trim r.rest

-- the text of a note's child: the caller's word goes from the first child
unfoldable pub note_text : Tape → ℕ → ℕ → Bytes
note_text t first k = cond (eqb k first) (remainder (text_at_of t k)) (text_at_of t k)

-- one turn along a note's children: what is written, and whether a text behind it loses its leading space
pub record Noted : Type 0 where
  pub written : List Event
  pub trim : Bool

-- a child of a note: direct text is never split at `//`
unfoldable pub note_turn_of : (ℕ → Bool → List Event) → Tape → ℕ → Bool → Bool → ℕ → NoteChild → Noted
note_turn_of node t first behind trim k direct =
    let n = normalized t k (note_text t first k) trim behind in
    record { written = unbroken (note_text t first k) n; trim = trim && not n.shows }
note_turn_of node t first behind trim k left_out = record { written = []; trim = trim }
note_turn_of node t first behind trim k entered = record { written = node k behind; trim = trims_after_of t k }

-- the events of a note's children, of which the first has this index
unfoldable pub note_all : (ℕ → Bool → List Event) → Tape → ℕ → Bool → Bool → List ℕ → List Event
note_all node t first behind trim [] = []
note_all node t first behind trim (k ∷ ks) =
    let r = note_turn_of node t first behind trim k (note_child_of t k) in r.written ++ note_all node t first behind r.trim ks

-- ---- by depth

-- the events inside a container, by the depth that is left at it
unfoldable pub inside : Tape → ℕ → Manner → ℕ → Bool → List Event
inside t zero m k outer = []
inside t (suc d) as_inline k outer = inline_all (node_in_of (inside t d) t) t (followed t k outer) trimming (children t k)
inside t (suc d) as_note k outer = note_all (node_in_of (inside t d) t) t (k + 1) (followed t k outer) trimming (children t k)

-- one node
abbrev pub node_e : Tape → ℕ → ℕ → Bool → List Event
node_e t d k outer = node_in_of (inside t d) t k outer

-- ---- blocks

-- cells are known markers
unfoldable pub is_known : Info → Bool
is_known (Some e) = true
is_known None = false

-- a row's cell: a marker that has an entry
unfoldable pub is_cell_of : Tape → ℕ → Bool
is_cell_of t k = is_open t k && is_known (info_at t k)

-- `write_cell`
unfoldable pub cell_in : (Manner → ℕ → Bool → List Event) → Tape → ℕ → ℕ → List Event
cell_in inside t level k =
    let attrs = style t k ∷ escaped (b "align") (align_word (cell_align_of (marker_name t k))) ∷ [] in
    item (line level) ∷ cond (has_content_of t k) (element el.cell attrs (inside as_inline k unfollowed)) (item (empty el.cell attrs) ∷ [])

-- the cells of a list; what is no cell is dropped
unfoldable pub cells_along : (Manner → ℕ → Bool → List Event) → Tape → ℕ → List ℕ → List Event
cells_along inside t level [] = []
cells_along inside t level (k ∷ ks) = cond (is_cell_of t k) (cell_in inside t level k) [] ++ cells_along inside t level ks

-- the cells of a row, by the depth that is left at the row
unfoldable pub cells : Tape → ℕ → ℕ → ℕ → List Event
cells t zero level k = []
cells t (suc d) level k = cells_along (inside t d) t level (children t k)

-- a row, one level inside its table; its cells stand one level further in
unfoldable pub row_e : Tape → ℕ → ℕ → ℕ → List Event
row_e t d level k =
    item (line (level + 1)) ∷ item (start el.row (styled (b "tr")))
    ∷ (cells t d (level + 2) k ++ (item (line (level + 1)) ∷ item (close el.row) ∷ []))

-- the rows of a list
unfoldable pub rows_e : Tape → ℕ → ℕ → List ℕ → List Event
rows_e t d level [] = []
rows_e t d level (k ∷ ks) = row_e t d level k ++ rows_e t d level ks

-- `write_table`: rows that stand together
unfoldable pub table_e : Tape → ℕ → ℕ → List ℕ → List Event
table_e t d level ks =
    item (line level) ∷ item (start el.table []) ∷ (rows_e t d level ks ++ (item (line level) ∷ item (close el.table) ∷ []))

-- a sidebar or periph around a list: blocks, or ` />` where it has no block and no row
unfoldable pub holder : (List ℕ → List Event) → Tape → ℕ → ℕ → List Attr → List ℕ → List Event
holder blocks t level n attrs ks =
    cond (any (λ k. is_top_level_block_of t k || is_row t k) ks)
    (item (start n attrs) ∷ (blocks ks ++ (item (line level) ∷ item (close n) ∷ [])))
    (item (empty n attrs) ∷ [])

-- "a sidebar's `\cat`" leaves the list
unfoldable pub sidebar_in : (List ℕ → List Event) → Tape → ℕ → ℕ → List Event
sidebar_in blocks t level k =
    holder blocks t level el.sidebar (style t k ∷ (perhaps (b "category") (written_category t k) ++ unclosed t k)) (without (is_category_marker_of t) (children t k))

-- a periph: its alt, then its attributes
unfoldable pub periph_in : (List ℕ → List Event) → Tape → ℕ → ℕ → List Event
periph_in blocks t level k =
    holder blocks t level el.periph (perhaps (b "alt") (periph_alt t k) ++ collected (attributes_of t k (b "periph"))) (children t k)

-- what a node is at block level
pub data Place : Type 0 where
  a_row_of a_chapter_of a_sidebar_of a_periph_of a_block a_verse_of dropped : Place

-- at block level, the first that fits: row; Chapter; sidebar, periph; top-level block; Verse; all else is dropped
unfoldable pub place_of : Tape → ℕ → Place
place_of t k =
    cond (is_row t k) a_row_of
    (cond (is_chapter_of t k) a_chapter_of
    (cond (is_element_of elements.sidebar (info_at t k)) a_sidebar_of
    (cond (is_element_of elements.periph (info_at t k)) a_periph_of
    (cond (is_top_level_block_of t k) a_block (cond (is_verse_of t k) a_verse_of dropped)))))

-- what is written as a figure, by the entry's name, may stand as a block; by its category no note does
unfoldable pub is_figure : Tape → Info → Bool
is_figure t (Some e) = same (entry_name t e) (b "fig")
is_figure t None = false

-- one turn along a list of blocks: what is written, and where the list goes on
pub record Blocks : Type 0 where
  pub written : List Event
  pub rest : List ℕ

-- `write_blocks`: each starts on a new line at its level, a figure's between its `aside` and `back`; a verse starts a run in a paragraph of its own, cut at the next block
unfoldable pub block_turn : (List ℕ → List Event) → Tape → ℕ → ℕ → ℕ → List ℕ → Place → Blocks
block_turn blocks t d level k ks a_row_of =
    record { written = table_e t d level (k ∷ up_to (λ i. not (is_row t i)) ks); rest = from_first (λ i. not (is_row t i)) ks }
block_turn blocks t d level k ks a_chapter_of =
    let f = fold_at t kinds.chapter ks in
    record { written = item (line level) ∷ chapter (number_at t k) f.alt f.published ∷ []; rest = f.rest }
block_turn blocks t d level k ks a_sidebar_of = record { written = item (line level) ∷ sidebar_in blocks t level k; rest = ks }
block_turn blocks t d level k ks a_periph_of = record { written = item (line level) ∷ periph_in blocks t level k; rest = ks }
block_turn blocks t d level k ks a_block = record { written = besides (is_figure t (info_at t k)) (item (line level) ∷ node_e t d k unfollowed); rest = ks }
block_turn blocks t d level k ks a_verse_of =
    record {
      written = item (line level) ∷ element el.para (styled (b "p")) (inline_all (node_in_of (inside t d) t) t unfollowed trimming (k ∷ up_to (is_top_level_block_of t) ks));
      rest = from_first (is_top_level_block_of t) ks;
    }
block_turn blocks t d level k ks dropped = record { written = []; rest = ks }

-- the events of a list of blocks, in at most so many turns
unfoldable pub blocks_from : (List ℕ → List Event) → Tape → ℕ → ℕ → ℕ → List ℕ → List Event
blocks_from blocks t d level zero ks = []
blocks_from blocks t d level (suc n) [] = []
blocks_from blocks t d level (suc n) (k ∷ ks) =
    let r = block_turn blocks t d level k ks (place_of t k) in r.written ++ blocks_from blocks t d level n r.rest

-- the events of a list of blocks, with those one level down
unfoldable pub blocks_all_of : (List ℕ → List Event) → Tape → ℕ → ℕ → List ℕ → List Event
blocks_all_of blocks t d level ks = blocks_from blocks t d level (length ks) ks

-- what a block writes, and the list behind it
unfoldable pub blocks_on : (List ℕ → List Event) → Tape → ℕ → ℕ → ℕ → List ℕ → Place → List Event
blocks_on blocks t d level k ks p =
    let r = block_turn blocks t d level k ks p in r.written ++ blocks_all_of blocks t d level r.rest

-- the events of a list of blocks at a level, by the depth that is left at them; two spaces a level
unfoldable pub blocks_e : Tape → ℕ → ℕ → List ℕ → List Event
blocks_e t zero level ks = blocks_all_of (λ _. []) t zero level ks
blocks_e t (suc d) level ks = blocks_all_of (blocks_e t d (level + 1)) t (suc d) level ks

-- all events of a tape, with fuel for so many containers in each other; the blocks of Root stand at level 1
unfoldable pub events_within : ℕ → Tape → List Event
events_within d t = blocks_e t d 1 (children t 0)

-- all events of a tape: an admitted one has at most 64 containers open at any node
unfoldable pub events_of : Tape → List Event
events_of t = events_within 64 t
