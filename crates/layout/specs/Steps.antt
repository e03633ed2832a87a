-- What a buffer holds behind a step that is done.
use Rattle.std.specs.Prelude.{◌++◌, ℕ, ◌+◌, ◌-◌, length, take, drop}
use Rattle.parts.specs.Bytes.{Bytes}
use Rattle.tape.specs.File.{le32}
use Rattle.tape.specs.declared.Node.{Node}
use Rattle.admit.specs.Encode.{four}
use Rattle.draft.specs.Draft.{Act, piece, entry, plain, leaf, opens, closes, relinked}
use Rattle.layout.specs.declared.Writer.{Writer}
use Rattle.layout.specs.Bytes.{node_bytes_of, entry_bytes, over}
use Rattle.layout.specs.Layout.{at_work_of, Held, held_in, head_of, free_of, laid, link_at}

-- one node more
unfoldable pub push : Held → Node → Held
push h n = record { entries = h.entries; names = h.names; source = h.source; nodes = h.nodes ++ node_bytes_of n }

-- a source piece more
unfoldable pub pour : Held → Bytes → Held
pour h s = record { entries = h.entries; names = h.names; source = h.source ++ s; nodes = h.nodes }

-- an entry more, with name bytes
unfoldable pub enter : Held → Bytes → Bytes → Held
enter h e s = record { entries = h.entries ++ e; names = h.names ++ s; source = h.source; nodes = h.nodes }

-- the node at an index linked to another
unfoldable pub link : Held → ℕ → ℕ → Held
link h i to = record { entries = h.entries; names = h.names; source = h.source; nodes = over h.nodes (link_at i) (four to) }

-- the link of the node at an index
unfoldable pub outer : Held → ℕ → ℕ
outer h i = le32 (drop (link_at i) h.nodes)

-- the state with a node more; what is open is told anew
abbrev pub pushed : Writer → ℕ → ℕ → Writer
pushed w inner depth =
    record { phase = at_work_of; nodes = w.nodes + 1; entries = w.entries; names = w.names; source = w.source; inner = inner; depth = depth }

-- the state with so many source bytes more
abbrev pub poured : Writer → ℕ → Writer
poured w k =
    record { phase = at_work_of; nodes = w.nodes; entries = w.entries; names = w.names; source = w.source + k; inner = w.inner; depth = w.depth }

-- the state with an entry more, and so many name bytes
abbrev pub entered : Writer → ℕ → Writer
entered w k =
    record { phase = at_work_of; nodes = w.nodes; entries = w.entries + 1; names = w.names + k; source = w.source; inner = w.inner; depth = w.depth }

-- the sections with what a step adds
unfoldable pub held_after : Writer → Held → Act → Held
held_after w h (piece s) = pour h s
held_after w h (entry s e) = enter h (entry_bytes e) s
held_after w h (plain n) = push h n
held_after w h (leaf n) = push h (relinked n (w.nodes + 1))
held_after w h (opens n) = push h (relinked n w.inner)
held_after w h (closes n) = push (link h w.inner (w.nodes + 1)) n

-- the free bytes that it leaves: a piece takes them from their front, all else from their end
unfoldable pub free_after : Bytes → Act → Bytes
free_after free (piece s) = drop (length s) free
free_after free (entry s e) = take (length free - (8 + length s)) free
free_after free (plain n) = take (length free - 16) free
free_after free (leaf n) = take (length free - 16) free
free_after free (opens n) = take (length free - 16) free
free_after free (closes n) = take (length free - 16) free

-- the buffer behind it
unfoldable pub buffer_after : Writer → Bytes → Act → Bytes
buffer_after w buf a = laid (head_of buf) (held_after w (held_in w buf) a) (free_after (free_of w buf) a)
