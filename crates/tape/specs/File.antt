-- The tape file: any bytes make a tape. Outside it stands a default.
use Rattle.std.specs.Prelude.{ℕ, zero, suc, ◌+◌, ◌*◌, min, List, [], ◌∷◌, Bool, cond, ◌&&◌, ◌||◌, length, get_or, drop, eqb, ltb, leb, None, Some}
use Rattle.parts.specs.Bytes.{Bytes, part}
use Rattle.tape.specs.declared.Node.{Node}
use Rattle.tape.specs.declared.Entry.{Entry}
use Rattle.tape.specs.declared.Sections.{Sections}
use Rattle.tape.specs.declared.TapeFile.{TapeFile}
use Rattle.tape.specs.Found.{Info}
use Rattle.tape.specs.Kind as kinds
use Rattle.tape.specs.Flag as flags
use Rattle.tape.specs.Category as categories
use Rattle.tape.specs.Element as elements

-- ---- numbers, little-endian

-- the number of the first two bytes; what is missing counts 0
unfoldable pub le16 : Bytes → ℕ
le16 s = get_or s 0 0 + 256 * get_or s 1 0

-- the number of the first four bytes
unfoldable pub le32 : Bytes → ℕ
le32 s = le16 s + 65536 * le16 (drop 2 s)

-- ---- nodes and entries

-- what stands outside the tape, or not wholly in the file: an Error with no text and no entry
abbrev pub nowhere : Node
nowhere =
    record {
      kind = record { code = kinds.error };
      flags = record { bits = 0 };
      marker = 65535;
      link = 0;
      start = 0;
      len = 0;
    }

-- what stands outside the entries, or not wholly in the file: no name, category Other
abbrev pub nameless : Entry
nameless = record { start = 0; len = 0; category = record { code = categories.other }; element = record { code = elements.other } }

-- node, 16 bytes: kind u8, flags u8, marker u16, link u32, start u32, length u32
unfoldable pub node_fields_of : Bytes → Node
node_fields_of s =
    record {
      kind = record { code = get_or s 0 0 };
      flags = record { bits = get_or s 1 0 };
      marker = le16 (drop 2 s);
      link = le32 (drop 4 s);
      start = le32 (drop 8 s);
      len = le32 (drop 12 s);
    }

-- the node of the first 16 bytes, where there are so many
unfoldable pub node_of : Bytes → Node
node_of s = cond (leb 16 (length s)) (node_fields_of s) nowhere

-- entry, 8 bytes: name start u32, name length u16, category u8, element u8
unfoldable pub entry_fields_of : Bytes → Entry
entry_fields_of s =
    record {
      start = le32 s;
      len = le16 (drop 4 s);
      category = record { code = get_or s 6 0 };
      element = record { code = get_or s 7 0 };
    }

-- the entry of the first 8 bytes, where there are so many
unfoldable pub entry_of : Bytes → Entry
entry_of s = cond (leb 8 (length s)) (entry_fields_of s) nameless

-- so many records, one behind the other
unfoldable pub records_of : {A : Type 0} → (Bytes → A) → ℕ → ℕ → Bytes → List A
records_of read size zero s = []
records_of read size (suc n) s = read s ∷ records_of read size n (drop size s)

-- ---- the tape

-- a tape: its nodes, entries, name bytes and source bytes
pub record Tape : Type 0 where
  pub nodes : List Node
  pub entries : List Entry
  pub names : Bytes
  pub source : Bytes

-- the sections follow the header in order with no gap: nodes, entries, names, source; where the entries stand
abbrev pub entries_at : Sections → ℕ
entries_at c = c.head + 16 * c.nodes

-- where the names stand
abbrev pub names_at : Sections → ℕ
names_at c = entries_at c + 8 * c.entries

-- where the source stands
abbrev pub source_at : Sections → ℕ
source_at c = names_at c + c.names

-- the tape that a file holds by these counts
unfoldable pub tape_in : Sections → Bytes → Tape
tape_in c file =
    record {
      nodes = records_of node_of 16 c.nodes (drop c.head file);
      entries = records_of entry_of 8 c.entries (drop (entries_at c) file);
      names = part file (names_at c) c.names;
      source = part file (source_at c) c.source;
    }

-- the tape that a tape file holds
abbrev pub contents : TapeFile → Tape
contents t = tape_in t.sections t.file.now

-- how long the header is: nine u32
abbrev pub header_len : ℕ
header_len = 36

-- the header: format; count and offset of nodes, entries, name bytes, source bytes
unfoldable pub sections_of : Bytes → Sections
sections_of file =
    record {
      head = header_len;
      nodes = le32 (drop 4 file);
      entries = le32 (drop 12 file);
      names = le32 (drop 20 file);
      source = le32 (drop 28 file);
    }

-- the tape of a file
unfoldable pub tape_of : Bytes → Tape
tape_of file = tape_in (sections_of file) file

-- where a node's 16 bytes stand, if they all do and it is on the tape; nothing else
unfoldable pub bytes_at : Sections → Bytes → ℕ → Bytes
bytes_at c file k = cond (ltb k c.nodes && leb (c.head + 16 * k + 16) (length file)) (part file (c.head + 16 * k) 16) []

-- the same of an entry's 8 bytes
unfoldable pub entry_bytes_at : Sections → Bytes → ℕ → Bytes
entry_bytes_at c file i = cond (ltb i c.entries && leb (entries_at c + 8 * i + 8) (length file)) (part file (entries_at c + 8 * i) 8) []

-- ---- fields of a node

-- the node at an index
unfoldable pub node_at : Tape → ℕ → Node
node_at t k = get_or t.nodes k nowhere

-- the entry at an index
unfoldable pub entry_at : Tape → ℕ → Entry
entry_at t i = get_or t.entries i nameless

-- the kind of the node at an index
abbrev pub kind_at : Tape → ℕ → ℕ
kind_at t k = (node_at t k).kind.code

-- the text of a node: its span of the source
unfoldable pub text_at_of : Tape → ℕ → Bytes
text_at_of t k = part t.source (node_at t k).start (node_at t k).len

-- where a node's text starts in the file: in the source, at the node's start, as far as the source reaches
unfoldable pub text_start : Sections → Bytes → ℕ → ℕ
text_start c file k = source_at c + min (node_at (tape_in c file) k).start (length (tape_in c file).source)

-- the name of an entry
unfoldable pub entry_name : Tape → Entry → Bytes
entry_name t e = part t.names e.start e.len

-- where an entry's name starts in the file: in the names, at the entry's start, as far as the names reach
unfoldable pub entry_start : Sections → Bytes → Entry → ℕ
entry_start c file e = names_at c + min e.start (length (tape_in c file).names)

-- whether a node is synthetic
unfoldable pub is_synthetic : Tape → ℕ → Bool
is_synthetic t k = flags.has_flag flags.synthetic (node_at t k).flags.bits

-- whether a node is nested
unfoldable pub is_nested : Tape → ℕ → Bool
is_nested t k = flags.has_flag flags.nested (node_at t k).flags.bits

-- the kinds whose nodes bear a marker: MarkerOpen, MarkerClose, BlockEnd, Chapter, Verse
unfoldable pub bears_marker : ℕ → Bool
bears_marker kind = leb kinds.marker_open kind && leb kind kinds.verse

-- the entry of a node; a marker number at or above the entry count is unknown
unfoldable pub info_at : Tape → ℕ → Info
info_at t k =
    cond (bears_marker (kind_at t k) && ltb (node_at t k).marker (length t.entries))
    (Some (entry_at t (node_at t k).marker)) None

-- the number of a Chapter or Verse, which stands in its link
unfoldable pub number_at : Tape → ℕ → ℕ
number_at t k = cond (eqb (kind_at t k) kinds.chapter || eqb (kind_at t k) kinds.verse) (node_at t k).link 0

-- the category of a node's entry; that of what is unknown is Other
unfoldable pub category_of : Info → ℕ
category_of (Some e) = e.category.code
category_of None = categories.other

-- the element of a node's entry; that of what is unknown is other
unfoldable pub element_of : Info → ℕ
element_of (Some e) = e.element.code
element_of None = elements.other

-- how long the name of a node's entry is; unknown counts 0
unfoldable pub base_len : Info → ℕ
base_len (Some e) = e.len
base_len None = 0

-- the name of a node's entry; what is unknown has none
unfoldable pub info_name : Tape → Info → Bytes
info_name t (Some e) = entry_name t e
info_name t None = []

-- where the name of a node's entry starts in the file; nothing stands at the file's start
unfoldable pub name_of_start : Sections → Bytes → Info → ℕ
name_of_start c file (Some e) = entry_start c file e
name_of_start c file None = 0
