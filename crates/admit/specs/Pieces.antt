-- The parts of the rules that single functions decide.
use Rattle.std.specs.Prelude.{◌≡◌, true, ◌↔◌, ◌⊎◌, List, ℕ, ◌+◌, ◌≤◌, ◌<◌, length, get_or, drop}
use Rattle.parts.specs.Bytes.{Bytes}
use Rattle.chars.specs.Utf8.{is_boundary}
use Rattle.tape.specs.File.{le32, entries_at, names_at, source_at, Tape, node_at, entry_at, kind_at, info_at, element_of, base_len}
use Rattle.tape.specs.Name.{marker_name}
use Rattle.tape.specs.declared.Node.{Node}
use Rattle.tape.specs.declared.Sections.{Sections}
use Rattle.source_index.specs.Seek.{Right}
use Rattle.source_index.specs.declared.Test.TheVariants.{Ender, Gap}
use Rattle.admit.specs.Rules.{GoodEntry, LabelCut}
use Rattle.admit.specs.Limits as limits
use Rattle.tape.specs.Kind as kinds
use Rattle.tape.specs.Flag as flags
use Rattle.tape.specs.Element as elements

-- 1: the offsets of a header are those of these counts
pub record Offsets (file : Bytes) (c : Sections) : Type 0 where
  pub nodes : le32 (drop 8 file) ≡ c.head
  pub entries : le32 (drop 16 file) ≡ entries_at c
  pub names : le32 (drop 24 file) ≡ names_at c
  pub source : le32 (drop 32 file) ≡ source_at c

-- 4: a byte that can stand in a name
abbrev pub GoodByte : ℕ → Type 0
GoodByte x = (limits.lowest_name_byte ≤ x) × (x ≤ limits.highest_name_byte)

-- 4: every name byte is good
abbrev pub GoodBytes : Bytes → Type 0
GoodBytes s = (i : ℕ) → i < length s → GoodByte (get_or s i 0)

-- 4: every entry is good
abbrev pub GoodEntries : Tape → Type 0
GoodEntries t = (i : ℕ) → i < length t.entries → GoodEntry t (entry_at t i)

-- 5: kind, flags, and Root at index 0 alone
pub record GoodShape (n : Node) (k : ℕ) : Type 0 where
  pub kind : n.kind.code ≤ kinds.error
  pub flags : n.flags.bits ≤ flags.all
  pub root : (n.kind.code ≡ kinds.root) ↔ (k ≡ 0)

-- 5: a span lies in the source, with both ends between characters
pub record GoodSpan (source : Bytes) (n : Node) : Type 0 where
  pub inside : n.start + n.len ≤ length source
  pub start : is_boundary source n.start ≡ true
  pub end : is_boundary source (n.start + n.len) ≡ true

-- 5: what is asked of a node but for its label
pub record SoundNode (t : Tape) (k : ℕ) : Type 0 where
  pub kind : kind_at t k ≤ kinds.error
  pub flags : (node_at t k).flags.bits ≤ flags.all
  pub root : (kind_at t k ≡ kinds.root) ↔ (k ≡ 0)
  pub inside : (node_at t k).start + (node_at t k).len ≤ length t.source
  pub start : is_boundary t.source (node_at t k).start ≡ true
  pub end : is_boundary t.source ((node_at t k).start + (node_at t k).len) ≡ true
  pub plain : (kind_at t k ≡ kinds.chapter) ⊎ (kind_at t k ≡ kinds.verse) → element_of (info_at t k) ≡ elements.other

-- 5: every node is sound, the labels apart
abbrev pub SoundNodes : Tape → Type 0
SoundNodes t = (k : ℕ) → k < length t.nodes → SoundNode t k

-- 5: where a label is cut out of the marker name, the cut falls between characters
abbrev pub GoodLabel : Tape → ℕ → Type 0
GoodLabel t k = LabelCut t k → is_boundary (marker_name t k) (base_len (info_at t k)) ≡ true

-- 5: the label of a Verse
abbrev pub GoodVerse : Tape → ℕ → Type 0
GoodVerse t k = kind_at t k ≡ kinds.verse → GoodLabel t k

-- 5: every label of a Verse is good
abbrev pub GoodVerses : Tape → Type 0
GoodVerses t = (k : ℕ) → k < length t.nodes → GoodVerse t k

-- tables of a source: of what ends a name, and of the gaps before words
pub record Tables (source : Bytes) (enders gaps : List ℕ) : Type 0 where
  pub names : Right Ender source enders
  pub words : Right Gap source gaps
