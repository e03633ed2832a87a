-- The bytes of nodes and entries, and a run stored over a list.
use Rattle.std.specs.Prelude.{◌++◌, ℕ, ◌+◌, ◌-◌, length, take, drop}
use Rattle.parts.specs.Bytes.{Bytes, part}
use Rattle.std.specs.Prelude.{reverse}
use Rattle.tape.specs.declared.Node.{Node}
use Rattle.tape.specs.declared.Entry.{Entry}
use Rattle.admit.specs.Encode as encode

-- the 16 bytes of a node
unfoldable pub node_bytes_of : Node → Bytes
node_bytes_of n = encode.flagged n.flags.bits n.kind.code n.marker n.link n.start n.len

-- the 8 bytes of an entry
unfoldable pub entry_bytes : Entry → Bytes
entry_bytes e = encode.entry e.start e.len e.category.code e.element.code

-- a list with a run stored over it from a place on
unfoldable pub over : Bytes → ℕ → Bytes → Bytes
over buf d s = take d buf ++ (s ++ drop (d + length s) buf)

-- a list with the part from one place to another turned around
abbrev pub reversed : Bytes → ℕ → ℕ → Bytes
reversed s f t = take f s ++ (reverse (drop f (take t s)) ++ drop t s)

-- a list with two neighbouring parts exchanged: that from lo to mid and that from mid to hi
unfoldable pub exchange : Bytes → ℕ → ℕ → ℕ → Bytes
exchange s lo mid hi = take lo s ++ (part s mid (hi - mid) ++ (part s lo (mid - lo) ++ drop hi s))
