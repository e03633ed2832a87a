-- The attributes of a cell, and the tags around a row and a table, each on a line of its own.
use Rattle.std.specs.Prelude.{ℕ, List, [], ◌∷◌}
use Rattle.parts.specs.Bytes.{b}
use Rattle.tape.specs.File.{Tape}
use Rattle.tape.specs.Name.{marker_name}
use Rattle.render.specs.Note.{cell_align_of, align_word}
use Rattle.tags.specs.Items.{Attr, start, close, line}
use Rattle.events.specs.Event.{Event, item, escaped}
use Rattle.events.specs.Walk.{style, styled}
use Rattle.tags.specs.Element as el

-- a cell's attributes: its style and its alignment
abbrev pub cell_attrs : Tape → ℕ → List Attr
cell_attrs t k = style t k ∷ escaped (b "align") (align_word (cell_align_of (marker_name t k))) ∷ []

-- the start of a row on its line
unfoldable pub row_opens : ℕ → List Event
row_opens level = item (line level) ∷ item (start el.row (styled (b "tr"))) ∷ []

-- the end of a row on its line
unfoldable pub row_closes : ℕ → List Event
row_closes level = item (line level) ∷ item (close el.row) ∷ []

-- the start of a table on its line
unfoldable pub table_opens : ℕ → List Event
table_opens level = item (line level) ∷ item (start el.table []) ∷ []

-- the end of a table on its line
unfoldable pub table_closes : ℕ → List Event
table_closes level = item (line level) ∷ item (close el.table) ∷ []
