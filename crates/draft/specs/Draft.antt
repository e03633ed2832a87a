-- A half-built tape: what has been added so far, and what a step adds.
use Rattle.std.specs.Prelude.{List, [], ◌∷◌, ◌++◌, ℕ, ◌+◌, ◌-◌, ◌*◌, length, get_or, set}
use Rattle.parts.specs.Bytes.{Bytes}
use Rattle.tape.specs.File.{Tape, nowhere}
use Rattle.tape.specs.declared.Node.{Node}
use Rattle.tape.specs.declared.Entry.{Entry}
use Rattle.tape.specs.Kind as kinds
use Rattle.tape.specs.Flag as flags

-- what has been added. An open container links to the one around it, 0 for none, until its close is added; every other link is that of the finished file
pub record Draft : Type 0 where
  pub entries : List Entry
  pub names : Bytes
  pub source : Bytes
  -- Root left out: the node at place k has index k + 1
  pub nodes : List Node
  -- the index of the innermost open container, 0 for none
  pub inner : ℕ
  -- how many containers are open
  pub depth : ℕ

-- what a step adds
pub data Act : Type 0 where
  -- a source piece
  piece : Bytes → Act
  -- an entry, with the name bytes that come with it
  entry : Bytes → Entry → Act
  -- a Text, Attribute, Error, Chapter or Verse
  plain : Node → Act
  -- a MarkerOpen that links to itself
  leaf : Node → Act
  -- a MarkerOpen that others will stand in
  opens : Node → Act
  -- a MarkerClose or BlockEnd, for the innermost open container
  closes : Node → Act

-- the draft that nothing has been added to
abbrev pub empty : Draft
empty = record { entries = []; names = []; source = []; nodes = []; inner = 0; depth = 0 }

-- a node with another link
abbrev pub relinked : Node → ℕ → Node
relinked n to = record { kind = n.kind; flags = n.flags; marker = n.marker; link = to; start = n.start; len = n.len }

-- the index of the next node
abbrev pub next_index : Draft → ℕ
next_index d = length d.nodes + 1

-- the innermost open container
abbrev pub innermost : Draft → Node
innermost d = get_or d.nodes (d.inner - 1) nowhere

-- one node more; what is open is told anew
unfoldable pub add : Draft → List Node → Node → ℕ → ℕ → Draft
add d before n inner depth =
    record {
      entries = d.entries;
      names = d.names;
      source = d.source;
      nodes = before ++ (n ∷ []);
      inner = inner;
      depth = depth;
    }

-- the nodes with the innermost open container linked to the next
unfoldable pub linked : Draft → List Node
linked d = set d.nodes (d.inner - 1) (relinked (innermost d) (next_index d))

-- the draft with what a step adds
unfoldable pub after : Draft → Act → Draft
after d (piece s) = record { entries = d.entries; names = d.names; source = d.source ++ s; nodes = d.nodes; inner = d.inner; depth = d.depth }
after d (entry s e) = record { entries = d.entries ++ (e ∷ []); names = d.names ++ s; source = d.source; nodes = d.nodes; inner = d.inner; depth = d.depth }
after d (plain n) = add d d.nodes n d.inner d.depth
after d (leaf n) = add d d.nodes (relinked n (next_index d)) d.inner d.depth
after d (opens n) = add d d.nodes (relinked n d.inner) (next_index d) (d.depth + 1)
after d (closes n) = add d (linked d) n (innermost d).link (d.depth - 1)

-- Root: the writer's own, synthetic, with no marker and no text, linked to the node count
abbrev pub root_node : ℕ → Node
root_node count = record { kind = record { code = kinds.root }; flags = record { bits = flags.synthetic }; marker = 65535; link = count; start = 0; len = 0 }

-- the tape of a draft
unfoldable pub tape_from : Draft → Tape
tape_from d = record { nodes = root_node (next_index d) ∷ d.nodes; entries = d.entries; names = d.names; source = d.source }

-- how long its file is: header and Root, nodes, entries, names, source
unfoldable pub size_of : Draft → ℕ
size_of d = 52 + 16 * length d.nodes + 8 * length d.entries + length d.names + length d.source
