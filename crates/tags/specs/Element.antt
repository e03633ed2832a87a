-- The sixteen elements, by number from 1 in document 01's order.
use Rattle.std.specs.Prelude.{ℕ}

-- the whole text
abbrev pub usx : ℕ
usx = 1

-- a book's code and the rest of its line
abbrev pub book : ℕ
book = 2

-- a chapter's start or end
abbrev pub chapter : ℕ
chapter = 3

-- a verse's start or end
abbrev pub verse : ℕ
verse = 4

-- a paragraph
abbrev pub para : ℕ
para = 5

-- a marker inside text
abbrev pub char : ℕ
char = 6

-- a note
abbrev pub note : ℕ
note = 7

-- a milestone of the source
abbrev pub ms : ℕ
ms = 8

-- a figure
abbrev pub figure : ℕ
figure = 9

-- a table
abbrev pub table : ℕ
table = 10

-- its row
abbrev pub row : ℕ
row = 11

-- a row's cell
abbrev pub cell : ℕ
cell = 12

-- a sidebar
abbrev pub sidebar : ℕ
sidebar = 13

-- a periph
abbrev pub periph : ℕ
periph = 14

-- the optional break, `//`
abbrev pub optbreak : ℕ
optbreak = 15

-- a reference
abbrev pub ref : ℕ
ref = 16
