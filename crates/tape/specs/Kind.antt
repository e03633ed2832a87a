-- The kinds of nodes, by document 01's numbers.
use Rattle.std.specs.Prelude.{ℕ}

-- the whole tape: node 0 alone
abbrev pub root : ℕ
root = 0

-- a text
abbrev pub text : ℕ
text = 1

-- attributes, as they stand in the source
abbrev pub attribute : ℕ
attribute = 2

-- a marker: a container, or a leaf that links to itself
abbrev pub marker_open : ℕ
marker_open = 3

-- the close of an inline container
abbrev pub marker_close : ℕ
marker_close = 4

-- the close of a block
abbrev pub block_end_of : ℕ
block_end_of = 5

-- a chapter, whose link is its number
abbrev pub chapter : ℕ
chapter = 6

-- a verse
abbrev pub verse : ℕ
verse = 7

-- what the parser could not read
abbrev pub error : ℕ
error = 8
