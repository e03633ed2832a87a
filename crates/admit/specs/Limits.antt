-- The limits of a tape file, by document 01's numbers.
use Rattle.std.specs.Prelude.{ℕ}

-- the one format that is read
abbrev pub format : ℕ
format = 1

-- nodes at most
abbrev pub most_nodes : ℕ
most_nodes = 262144

-- entries at most
abbrev pub most_entries : ℕ
most_entries = 1024

-- name bytes at most
abbrev pub most_names : ℕ
most_names = 16384

-- source bytes at most
abbrev pub most_source : ℕ
most_source = 4194304

-- the lowest byte of a name
abbrev pub lowest_name_byte : ℕ
lowest_name_byte = 33

-- the highest byte of a name
abbrev pub highest_name_byte : ℕ
highest_name_byte = 126
