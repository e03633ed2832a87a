-- The grammar of the walk's events: what stands alone, what stands around others, and how many stand around one another. A means of proof: no promise speaks of it.
use Rattle.std.specs.Prelude.{ℕ, zero, suc, ◌≡◌, true, List, [], ◌∷◌, ◌++◌}
use Rattle.std.proofs.Math.Option.{Option}
use Rattle.parts.specs.Bytes.{Bytes, b}
use Rattle.tape.specs.File.{Tape, kind_at, bears_marker}
use Rattle.tape.specs.Name.{marker_name}
use Rattle.render.specs.Shape.{is_open, is_verse_of}
use Rattle.render.specs.Label.{label_of}
use Rattle.render.specs.Note.{note_caller_of, written_category, book_code_of, book_rest_of, periph_alt, cell_align_of, align_word}
use Rattle.attrs.specs.Attr.{attributes_of}
use Rattle.attrs.specs.Walk.{first_of}
use Rattle.figure.specs.Figure.{legacy_pairs}
use Rattle.tags.specs.Items.{Attr, start, empty, close, text, line}
use Rattle.events.specs.Event.{Event, item, chapter, verse, book, aside, back, escaped, perhaps, collected}
use Rattle.events.specs.Walk.{style, styled, unclosed, id, role_of}
use Rattle.tags.specs.Element as el

-- a node that bears a marker
abbrev pub Marked : Tape → ℕ → Type 0
Marked t k = bears_marker (kind_at t k) ≡ true

-- the attributes that the walk gives an element
pub data Given (t : Tape) : ℕ → List Attr → Type 0 where
  unknown-para : (k : ℕ) → Marked t k → Given t el.para (style t k ∷ escaped (b "status") (b "unknown") ∷ [])
  unknown-char : (k : ℕ) → Marked t k → Given t el.char (style t k ∷ escaped (b "status") (b "unknown") ∷ [])
  old_figure : (k a : ℕ) → Given t el.figure (styled (b "fig") ++ collected (legacy_pairs t k a))
  a_figure : (k : ℕ) → Given t el.figure (styled (b "fig") ++ collected (attributes_of t k (b "fig")))
  a_ref : (k : ℕ) → Given t el.ref (perhaps (b "loc") (first_of (b "loc") (attributes_of t k (b "ref"))))
  a_link : (loc : Bytes) → Given t el.ref (escaped (b "loc") loc ∷ [])
  a_note : (k : ℕ) → Marked t k → Given t el.note (escaped (b "caller") (note_caller_of t k) ∷ style t k ∷ perhaps (b "category") (written_category t k))
  an_ms : (k : ℕ) → Marked t k → Given t el.ms (style t k ∷ collected (attributes_of t k (marker_name t k)))
  a_char : (k : ℕ) → Marked t k → Given t el.char (style t k ∷ (unclosed t k ++ collected (attributes_of t k (marker_name t k))))
  a_para : (k : ℕ) → Marked t k → Given t el.para (style t k ∷ [])
  a_run : Given t el.para (styled (b "p"))
  a_table : Given t el.table []
  a_row : Given t el.row (styled (b "tr"))
  a_cell : (k : ℕ) → Marked t k → Given t el.cell (style t k ∷ escaped (b "align") (align_word (cell_align_of (marker_name t k))) ∷ [])
  a_sidebar : (k : ℕ) → Marked t k → Given t el.sidebar (style t k ∷ (perhaps (b "category") (written_category t k) ++ unclosed t k))
  a_periph : (k : ℕ) → Given t el.periph (perhaps (b "alt") (periph_alt t k) ++ collected (attributes_of t k (b "periph")))
  a_break : Given t el.optbreak []

-- what opens and closes nothing
pub data Leaf (t : Tape) : Event → Type 0 where
  a_text : {s : Bytes} → Leaf t (item (text s))
  a_line : {d : ℕ} → Leaf t (item (line d))
  an_empty : {n : ℕ} {qs : List Attr} → Given t n qs → Leaf t (item (empty n qs))
  a_chapter : {n : ℕ} {alt published : Option Bytes} → Leaf t (chapter n alt published)
  a_verse : (k : ℕ) {alt published : Option Bytes} → is_verse_of t k ≡ true → Leaf t (verse (label_of t k) alt published)
  an_aside : Leaf t aside
  a_back : Leaf t back

-- events in which every element is closed by its own close, at most so many around one another; a book may be one
pub data Grown (t : Tape) : ℕ → List Event → Type 0 where
  none : {h : ℕ} → Grown t h []
  leaf : {h : ℕ} {e : Event} {es : List Event} → Leaf t e → Grown t h es → Grown t h (e ∷ es)
  a_book : {h : ℕ} {es : List Event} (k : ℕ) → is_open t k ≡ true → role_of t k ≡ id → Grown t (suc h) es → Grown t (suc h) (book (book_code_of t k) (book_rest_of t k) ∷ es)
  around : {h n : ℕ} {qs : List Attr} {es fs : List Event} → Given t n qs → Grown t h es → Grown t (suc h) fs
      → Grown t (suc h) (item (start n qs) ∷ (es ++ (item (close n) ∷ fs)))

-- ---- event by event

-- one event: what stands alone, a book, the opening or the close of an element
pub data Written (t : Tape) : Event → Type 0 where
  by_itself : {e : Event} → Leaf t e → Written t e
  of_book : (k : ℕ) → is_open t k ≡ true → role_of t k ≡ id → Written t (book (book_code_of t k) (book_rest_of t k))
  opening : {n : ℕ} {qs : List Attr} → Given t n qs → Written t (item (start n qs))
  closing : {n : ℕ} {qs : List Attr} → Given t n qs → Written t (item (close n))

-- each of a list
abbrev pub AllWritten : Tape → List Event → Type 0
AllWritten t [] = Unit {0}
AllWritten t (e ∷ es) = Written t e × AllWritten t es

-- ---- heights

-- so many containers write at most twice as many elements around one another
unfoldable pub twice : ℕ → ℕ
twice zero = zero
twice (suc d) = suc (suc (twice d))
