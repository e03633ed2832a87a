-- Tape files written readably, for examples.
use mathlib.Core.List.{List, [], ◌∷◌, ◌++◌, flatten}
use Rattle.std.specs.Prelude.{ℕ, ◌+◌, ◌*◌, ◌/◌, ◌%◌, length}
use Rattle.parts.specs.Bytes.{Bytes}
use Rattle.tape.specs.File.{header_len}
use Rattle.admit.specs.Limits as limits

-- the two bytes of a number
abbrev pub two : ℕ → Bytes
two n = n % 256 ∷ n / 256 ∷ []

-- the four bytes of a number
abbrev pub four : ℕ → Bytes
four n = two (n % 65536) ++ two (n / 65536)

-- a node: flags, kind, marker, link, start, length
abbrev pub flagged : ℕ → ℕ → ℕ → ℕ → ℕ → ℕ → Bytes
flagged f k m l s n = k ∷ f ∷ (two m ++ four l ++ four s ++ four n)

-- a node without flags: kind, marker, link, start, length
abbrev pub node : ℕ → ℕ → ℕ → ℕ → ℕ → Bytes
node = flagged 0

-- an entry: its name's start and length, category, element
abbrev pub entry : ℕ → ℕ → ℕ → ℕ → Bytes
entry s n c e = four s ++ two n ++ (c ∷ e ∷ [])

-- a file of nodes, entries, names and source, laid out as it should be
abbrev pub file : List Bytes → List Bytes → Bytes → Bytes → Bytes
file ns es names source =
    let e = header_len + 16 * length ns in
    let m = e + 8 * length es in
    let s = m + length names in
    four limits.format
    ++ four (length ns) ++ four header_len
    ++ four (length es) ++ four e
    ++ four (length names) ++ four m
    ++ four (length source) ++ four s
    ++ flatten ns ++ flatten es ++ names ++ source
