-- The kinds and links of a list of nodes.
use Rattle.std.specs.Prelude.{List, ℕ, get_or}
use Rattle.tape.specs.File.{nowhere}
use Rattle.tape.specs.declared.Node.{Node}

-- the kind of the node at an index
abbrev pub kind_at : List Node → ℕ → ℕ
kind_at t i = (get_or t i nowhere).kind.code

-- the link of the node at an index
abbrev pub link_at : List Node → ℕ → ℕ
link_at t i = (get_or t i nowhere).link
