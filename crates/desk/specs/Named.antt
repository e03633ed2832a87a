-- The numbers of the elements.
use Rattle.std.specs.Prelude.{ℕ}
use Rattle.tags.specs.Element as el
use Rattle.desk.specs.declared.stroke.Element.{Element}
use Rattle.desk.specs.declared.stroke.Element.TheVariants.{Usx, Book, Chapter, Verse, Para, Char, Note, Ms, Figure, Table, Row, Cell, Sidebar, Periph, Optbreak, Ref}

-- the number of an element
abbrev pub number_of : Element → ℕ
number_of Usx = el.usx
number_of Book = el.book
number_of Chapter = el.chapter
number_of Verse = el.verse
number_of Para = el.para
number_of Char = el.char
number_of Note = el.note
number_of Ms = el.ms
number_of Figure = el.figure
number_of Table = el.table
number_of Row = el.row
number_of Cell = el.cell
number_of Sidebar = el.sidebar
number_of Periph = el.periph
number_of Optbreak = el.optbreak
number_of Ref = el.ref
