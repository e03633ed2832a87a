-- A marker as opening tags, what stands inside, and closing tags; or as a leaf with nothing inside.
use Rattle.std.specs.Prelude.{ℕ, List, [], ◌∷◌, ◌++◌, None, Some}
use Rattle.std.proofs.Math.Option.{Option, none, some}
use Rattle.parts.specs.Bytes.{Bytes, b}
use Rattle.tape.specs.File.{Tape}
use Rattle.tape.specs.Name.{marker_name}
use Rattle.tape.specs.Found.{Step}
use Rattle.render.specs.Note.{note_caller_of, written_category, book_code_of, book_rest_of}
use Rattle.attrs.specs.Attr.{attributes_of}
use Rattle.attrs.specs.Walk.{first_of}
use Rattle.figure.specs.Figure.{legacy_at, legacy_pairs, caption_of}
use Rattle.tags.specs.Items.{start, empty, close, text}
use Rattle.events.specs.Event.{Event, item, book, aside, back, escaped, perhaps, collected, element, asided}
use Rattle.events.specs.Walk.{style, styled, unclosed, Role, unknown_block, unknown_inline, unwritten, figure, ref, id, note, ms, char, para, link_of}
use Rattle.tags.specs.Element as el

-- the start of the `ref` around what an `xt` links
unfoldable pub link_opens : Option Bytes → List Event
link_opens none = []
link_opens (some loc) = item (start el.ref (escaped (b "loc") loc ∷ [])) ∷ []

-- the end of that `ref`
unfoldable pub link_closes : Option Bytes → List Event
link_closes none = []
link_closes (some loc) = item (close el.ref) ∷ []

-- what stands before the events inside a marker, by its role
unfoldable pub marker_opens : Tape → ℕ → Role → List Event
marker_opens t k unknown_block = item (start el.para (style t k ∷ escaped (b "status") (b "unknown") ∷ [])) ∷ []
marker_opens t k unknown_inline = item (start el.char (style t k ∷ escaped (b "status") (b "unknown") ∷ [])) ∷ []
marker_opens t k unwritten = []
marker_opens t k figure = aside ∷ item (start el.figure (styled (b "fig") ++ collected (attributes_of t k (b "fig")))) ∷ []
marker_opens t k ref = item (start el.ref (perhaps (b "loc") (first_of (b "loc") (attributes_of t k (b "ref"))))) ∷ []
marker_opens t k id = []
marker_opens t k note = aside ∷ item (start el.note (escaped (b "caller") (note_caller_of t k) ∷ style t k ∷ perhaps (b "category") (written_category t k))) ∷ []
marker_opens t k ms = []
marker_opens t k char = item (start el.char (style t k ∷ (unclosed t k ++ collected (attributes_of t k (marker_name t k))))) ∷ link_opens (link_of t k)
marker_opens t k para = item (start el.para (style t k ∷ [])) ∷ []

-- what stands behind the events inside a marker
unfoldable pub marker_closes : Tape → ℕ → Role → List Event
marker_closes t k unknown_block = item (close el.para) ∷ []
marker_closes t k unknown_inline = item (close el.char) ∷ []
marker_closes t k unwritten = []
marker_closes t k figure = item (close el.figure) ∷ back ∷ []
marker_closes t k ref = item (close el.ref) ∷ []
marker_closes t k id = []
marker_closes t k note = item (close el.note) ∷ back ∷ []
marker_closes t k ms = []
marker_closes t k char = link_closes (link_of t k) ++ (item (close el.char) ∷ [])
marker_closes t k para = item (close el.para) ∷ []

-- a figure of old, by its Attribute
unfoldable pub old_figure_of : Tape → ℕ → Step → List Event
old_figure_of t k None = []
old_figure_of t k (Some a) = asided (element el.figure (styled (b "fig") ++ collected (legacy_pairs t k a.at)) (item (text (caption_of t a.at)) ∷ []))

-- what a marker is written as where nothing stands inside
unfoldable pub leaf_of : Tape → ℕ → Role → List Event
leaf_of t k unknown_block = []
leaf_of t k unknown_inline = []
leaf_of t k unwritten = []
leaf_of t k figure = old_figure_of t k (legacy_at t k)
leaf_of t k ref = []
leaf_of t k id = book (book_code_of t k) (book_rest_of t k) ∷ []
leaf_of t k note = []
leaf_of t k ms = item (empty el.ms (style t k ∷ collected (attributes_of t k (marker_name t k)))) ∷ []
leaf_of t k char = []
leaf_of t k para = item (empty el.para (style t k ∷ [])) ∷ []
