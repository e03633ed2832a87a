-- The attributes of sidebars and periphs, and what they hold.
use Rattle.std.specs.Prelude.{ℕ, List, ◌∷◌, ◌++◌, Bool, true, false, ◌||◌}
use Rattle.parts.specs.Bytes.{b}
use Rattle.tape.specs.File.{Tape}
use Rattle.render.specs.Shape.{is_row, is_top_level_block_of}
use Rattle.render.specs.Note.{written_category, periph_alt}
use Rattle.attrs.specs.Attr.{attributes_of}
use Rattle.tags.specs.Items.{Attr}
use Rattle.events.specs.Event.{perhaps, collected}
use Rattle.events.specs.Walk.{style, unclosed}
use Rattle.tags.specs.Element as el

-- a block or a row
unfoldable pub is_block_or_row : Tape → ℕ → Bool
is_block_or_row t k = is_top_level_block_of t k || is_row t k

-- a sidebar's attributes
unfoldable pub sidebar_attrs : Tape → ℕ → List Attr
sidebar_attrs t k = style t k ∷ (perhaps (b "category") (written_category t k) ++ unclosed t k)

-- a periph's attributes
unfoldable pub periph_attrs : Tape → ℕ → List Attr
periph_attrs t k = perhaps (b "alt") (periph_alt t k) ++ collected (attributes_of t k (b "periph"))

-- a holder's attributes: of a sidebar, or of a periph
unfoldable pub attrs_of : Tape → ℕ → Bool → List Attr
attrs_of t k true = sidebar_attrs t k
attrs_of t k false = periph_attrs t k

-- a holder's element
unfoldable pub element_no : Bool → ℕ
element_no true = el.sidebar
element_no false = el.periph
