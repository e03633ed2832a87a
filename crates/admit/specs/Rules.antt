-- What document 01 asks of a tape file, a rule for each number.
use Rattle.std.specs.Prelude.{◌≡◌, true, ◌↔◌, ◌⊎◌, ℕ, ◌+◌, ◌≤◌, ◌<◌, length, get_or, drop}
use Rattle.parts.specs.Bytes.{Bytes}
use Rattle.chars.specs.Utf8.{is_utf8, is_boundary}
use Rattle.words.specs.Words.{words}
use Rattle.words.specs.declared.Set.TheVariants.{Unicode}
use Rattle.tape.specs.File.{le32, header_len, sections_of, entries_at, names_at, source_at, Tape, node_at, entry_at, kind_at, text_at_of, info_at, element_of, base_len}
use Rattle.tape.specs.Name.{marker_name}
use Rattle.tape.specs.declared.Entry.{Entry}
use Rattle.admit.specs.Limits as limits
use Rattle.tape.specs.Kind as kinds
use Rattle.tape.specs.Flag as flags
use Rattle.tape.specs.Category as categories
use Rattle.tape.specs.Element as elements

-- 1: at least 36 bytes, format 1, offsets and the file's length as laid out
pub record LaidOut (file : Bytes) : Type 0 where
  pub header : header_len ≤ length file
  pub format : le32 file ≡ limits.format
  pub nodes : le32 (drop 8 file) ≡ (sections_of file).head
  pub entries : le32 (drop 16 file) ≡ entries_at (sections_of file)
  pub names : le32 (drop 24 file) ≡ names_at (sections_of file)
  pub source : le32 (drop 32 file) ≡ source_at (sections_of file)
  pub whole : length file ≡ source_at (sections_of file) + (sections_of file).source

-- 2: nodes 1 to 262,144; entries at most 1,024; names at most 16,384 bytes; source at most 4,194,304 bytes
pub record Small (file : Bytes) : Type 0 where
  pub some : 0 < (sections_of file).nodes
  pub nodes : (sections_of file).nodes ≤ limits.most_nodes
  pub entries : (sections_of file).entries ≤ limits.most_entries
  pub names : (sections_of file).names ≤ limits.most_names
  pub source : (sections_of file).source ≤ limits.most_source

-- 3: the source is UTF-8
abbrev pub Utf8 : Tape → Type 0
Utf8 t = is_utf8 t.source ≡ true

-- 4: an entry's name lies in the names, its category is at most 7, its element at most 3
pub record GoodEntry (t : Tape) (e : Entry) : Type 0 where
  pub inside : e.start + e.len ≤ length t.names
  pub category : e.category.code ≤ categories.other
  pub element : e.element.code ≤ elements.row

-- 4: every name byte lies in 21..7E, and every entry is good
pub record GoodNames (t : Tape) : Type 0 where
  pub bytes : (i : ℕ) → i < length t.names → (limits.lowest_name_byte ≤ get_or t.names i 0) × (get_or t.names i 0 ≤ limits.highest_name_byte)
  pub entries : (i : ℕ) → i < length t.entries → GoodEntry t (entry_at t i)

-- a label is cut out of the marker name where there is no second word and the name is longer than the entry's
pub record LabelCut (t : Tape) (k : ℕ) : Type 0 where
  pub single : length (words Unicode (text_at_of t k)) ≤ 1
  pub longer : base_len (info_at t k) < length (marker_name t k)

-- 5: what is asked of a node
pub record GoodNode (t : Tape) (k : ℕ) : Type 0 where
  pub kind : kind_at t k ≤ kinds.error
  pub flags : (node_at t k).flags.bits ≤ flags.all
  pub root : (kind_at t k ≡ kinds.root) ↔ (k ≡ 0)
  pub inside : (node_at t k).start + (node_at t k).len ≤ length t.source
  pub start : is_boundary t.source (node_at t k).start ≡ true
  pub end : is_boundary t.source ((node_at t k).start + (node_at t k).len) ≡ true
  pub plain : (kind_at t k ≡ kinds.chapter) ⊎ (kind_at t k ≡ kinds.verse) → element_of (info_at t k) ≡ elements.other
  pub label : kind_at t k ≡ kinds.verse → LabelCut t k → is_boundary (marker_name t k) (base_len (info_at t k)) ≡ true

-- 5: every node is good
abbrev pub GoodNodes : Tape → Type 0
GoodNodes t = (k : ℕ) → k < length t.nodes → GoodNode t k
