-- The flags of nodes, by document 01's numbers.
use Rattle.std.specs.Prelude.{ℕ, ◌/◌, ◌%◌, Bool, eqb}

-- a node that the parser made, with no marker of its own in the source
abbrev pub synthetic : ℕ
synthetic = 1

-- a marker with a `+`, inside another of its kind
abbrev pub nested : ℕ
nested = 2

-- every flag at once
abbrev pub all : ℕ
all = 3

-- whether a flag stands in these bits
abbrev pub has_flag : ℕ → ℕ → Bool
has_flag flag bits = eqb (bits / flag % 2) 1
