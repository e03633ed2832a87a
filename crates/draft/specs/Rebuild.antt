-- The steps that write a tape anew.
use Rattle.std.specs.Prelude.{◌≡◌, cond, ◌||◌, List, [], ◌∷◌, ◌++◌, map, ℕ, ◌+◌, length, drop, eqb}
use Rattle.parts.specs.Bytes.{Bytes}
use Rattle.tape.specs.File.{Tape, bears_marker}
use Rattle.tape.specs.Tree.{is_close}
use Rattle.tape.specs.declared.Node.{Node}
use Rattle.tape.specs.declared.Entry.{Entry}
use Rattle.tape.specs.Kind as kinds
use Rattle.draft.specs.Draft.{Draft, Act, piece, entry, plain, leaf, opens, closes, relinked, root_node, after}
use Rattle.draft.specs.Fault.{fault}

-- a node with its kind's own fields alone: the marker of a kind that bears one, the link of a MarkerOpen, the number of a Chapter or Verse
unfoldable pub own_node : Node → Node
own_node n =
    record {
      kind = n.kind;
      flags = n.flags;
      marker = cond (bears_marker n.kind.code) n.marker 65535;
      link = cond (eqb n.kind.code kinds.marker_open || (eqb n.kind.code kinds.chapter || eqb n.kind.code kinds.verse)) n.link 0;
      start = n.start;
      len = n.len;
    }

-- the step for the node at an index; that of a MarkerOpen sets its link itself
unfoldable pub node_act : ℕ → Node → Act
node_act k n =
    cond (eqb n.kind.code kinds.marker_open)
    (cond (eqb n.link k) (leaf (relinked (own_node n) 0)) (opens (relinked (own_node n) 0)))
    (cond (is_close n.kind.code) (closes (own_node n)) (plain (own_node n)))

-- the steps for the nodes from an index on
unfoldable pub node_acts : ℕ → List Node → List Act
node_acts k [] = []
node_acts k (n ∷ ns) = node_act k n ∷ node_acts (k + 1) ns

-- the steps for entries; the first brings all name bytes
unfoldable pub entry_acts : Bytes → List Entry → List Act
entry_acts names [] = []
entry_acts names (e ∷ es) = entry names e ∷ entry_acts [] es

-- the steps for a tape: its entries, its source in one piece, its nodes behind Root
unfoldable pub acts_of : Tape → List Act
acts_of t = entry_acts t.names t.entries ++ (piece t.source ∷ node_acts 1 (drop 1 t.nodes))

-- steps that are done one after the other lead from a draft to a draft, in a buffer of so many bytes
pub data Runs (room : ℕ) : Draft → List Act → Draft → Type 0 where
  none : {d : Draft} → Runs room d [] d
  more : {d last : Draft} {a : Act} {rest : List Act} → fault d a room ≡ 0 → Runs room (after d a) rest last → Runs room d (a ∷ rest) last

-- the name bytes that the steps bring: none where no entry brings them
unfoldable pub brought_names : Bytes → List Entry → Bytes
brought_names names [] = []
brought_names names (e ∷ es) = names

-- the tape that they give
unfoldable pub rewritten : Tape → Tape
rewritten t =
    record {
      nodes = root_node (length t.nodes) ∷ map own_node (drop 1 t.nodes);
      entries = t.entries;
      names = brought_names t.names t.entries;
      source = t.source;
    }
