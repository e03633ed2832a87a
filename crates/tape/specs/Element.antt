-- The element codes of entries, by document 01's numbers.
use Rattle.std.specs.Prelude.{ℕ}

-- no element of its own
abbrev pub other : ℕ
other = 0

-- a sidebar
abbrev pub sidebar : ℕ
sidebar = 1

-- a periph
abbrev pub periph : ℕ
periph = 2

-- a table's row
abbrev pub row : ℕ
row = 3
