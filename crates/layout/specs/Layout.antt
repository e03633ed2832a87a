-- Where a lent buffer holds a draft, and the file that it ends as.
use Rattle.std.specs.Prelude.{◌++◌, ℕ, ◌+◌, ◌-◌, ◌*◌, ◌≤◌, ◌<◌, min, length, take, drop, replicate}
use Rattle.parts.specs.Bytes.{Bytes, part}
use Rattle.std.specs.Prelude.{reverse}
use Rattle.tape.specs.File.{node_of, entry_of, records_of, header_len}
use Rattle.admit.specs.Encode.{four}
use Rattle.admit.specs.Limits as limits
use Rattle.nest.specs.Nest.{most_open}
use Rattle.draft.specs.Draft.{Draft, root_node}
use Rattle.layout.specs.declared.Writer.{Writer}
use Rattle.layout.specs.Bytes.{node_bytes_of}

-- ---- phases of a state

-- nothing is begun
abbrev pub before_start : ℕ
before_start = 0

-- begun, and not finished
abbrev pub at_work_of : ℕ
at_work_of = 1

-- the file stands at the buffer's front
abbrev pub finished : ℕ
finished = 2

-- ---- places: header and Root, the source, free bytes, the nodes turned around, the entries, the names

-- how many bytes header and Root take
abbrev pub top_len : ℕ
top_len = 52

-- how many bytes nodes, entries and names take
abbrev pub tail_len : Writer → ℕ
tail_len w = 16 * w.nodes + 8 * w.entries + w.names

-- how long the file of a state is
abbrev pub file_len : Writer → ℕ
file_len w = top_len + w.source + tail_len w

-- where the nodes begin in a buffer of n bytes
abbrev pub nodes_at : Writer → ℕ → ℕ
nodes_at w n = n - tail_len w

-- where the entries begin
abbrev pub entries_at : Writer → ℕ → ℕ
entries_at w n = n - (8 * w.entries + w.names)

-- where the names begin
abbrev pub names_at : Writer → ℕ → ℕ
names_at w n = n - w.names

-- where the link of the node at an index stands among the bytes of the nodes, Root left out
abbrev pub link_at : ℕ → ℕ
link_at i = 16 * (i - 1) + 4

-- the counts of a state are within the limits, and its file within a buffer of so many bytes
pub record Fits (w : Writer) (n : ℕ) : Type 0 where
  pub room : file_len w ≤ n
  pub nodes : w.nodes < limits.most_nodes
  pub entries : w.entries ≤ limits.most_entries
  pub names : w.names ≤ limits.most_names
  pub source : w.source ≤ limits.most_source
  pub inner : w.inner ≤ w.nodes
  pub depth : w.depth ≤ most_open

-- ---- what stands there

-- the bytes of each section, those of the nodes in order
pub record Held : Type 0 where
  pub entries : Bytes
  pub names : Bytes
  pub source : Bytes
  pub nodes : Bytes

-- what a buffer holds for a state
unfoldable pub held_in : Writer → Bytes → Held
held_in w buf =
    record {
      entries = part buf (entries_at w (length buf)) (8 * w.entries);
      names = drop (names_at w (length buf)) buf;
      source = part buf top_len w.source;
      nodes = reverse (part buf (nodes_at w (length buf)) (16 * w.nodes));
    }

-- its first bytes, which are header's and Root's
abbrev pub head_of : Bytes → Bytes
head_of buf = take 52 buf

-- its free bytes
unfoldable pub free_of : Writer → Bytes → Bytes
free_of w buf = part buf (top_len + w.source) (length buf - file_len w)

-- a buffer of these parts
unfoldable pub laid : Bytes → Held → Bytes → Bytes
laid head h free = head ++ (h.source ++ (free ++ (reverse h.nodes ++ (h.entries ++ h.names))))

-- the draft of what is held
unfoldable pub read_as : Writer → Held → Draft
read_as w h =
    record {
      entries = records_of entry_of 8 w.entries h.entries;
      names = h.names;
      source = h.source;
      nodes = records_of node_of 16 w.nodes h.nodes;
      inner = w.inner;
      depth = w.depth;
    }

-- the draft that a state and a buffer stand for
abbrev pub draft_of : Writer → Bytes → Draft
draft_of w buf = read_as w (held_in w buf)

-- the state of a draft: its counts, and what is open
abbrev pub state_of : ℕ → Draft → Writer
state_of phase d =
    record {
      phase = phase;
      nodes = length d.nodes;
      entries = length d.entries;
      names = length d.names;
      source = length d.source;
      inner = d.inner;
      depth = d.depth;
    }

-- ---- the finished file

-- the header of so many nodes (with Root), entries, name bytes and source bytes
unfoldable pub header_bytes : ℕ → ℕ → ℕ → ℕ → Bytes
header_bytes n e m s =
    four limits.format
    ++ (four n ++ (four header_len
    ++ (four e ++ (four (header_len + 16 * n)
    ++ (four m ++ (four (header_len + 16 * n + 8 * e)
    ++ (four s ++ four (header_len + 16 * n + 8 * e + m))))))))

-- header and Root
unfoldable pub top_of : Writer → Bytes
top_of w = header_bytes (w.nodes + 1) w.entries w.names w.source ++ node_bytes_of (root_node (w.nodes + 1))

-- header, Root, nodes, entries, names, source
unfoldable pub file_of : Writer → Held → Bytes
file_of w h = top_of w ++ (h.nodes ++ (h.entries ++ (h.names ++ h.source)))

-- what stands behind the file: free bytes at their places as they were lent, and zeros where nodes, entries and names stood
unfoldable pub behind_of : Writer → Bytes → Bytes
behind_of w free = drop (tail_len w) free ++ replicate (min (length free) (tail_len w)) 0
