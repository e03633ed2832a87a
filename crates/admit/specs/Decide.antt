-- The number of a file by computation, the lowest first. Laws show that it is the number of specs/Refusal.
use Rattle.std.specs.Prelude.{Bool, true, false, cond, not, ◌&&◌, ◌||◌, ℕ, zero, suc, ◌+◌, length, get_or, drop, eqb, ltb, leb}
use Rattle.parts.specs.Bytes.{Bytes}
use Rattle.chars.specs.Utf8.{is_utf8, is_boundary}
use Rattle.words.specs.Words.{words}
use Rattle.words.specs.declared.Set.TheVariants.{Unicode}
use Rattle.tape.specs.File.{le32, header_len, sections_of, entries_at, names_at, source_at, Tape, tape_of, node_at, entry_at, kind_at, text_at_of, info_at, element_of, base_len}
use Rattle.tape.specs.Name.{marker_name}
use Rattle.tape.specs.declared.Entry.{Entry}
use Rattle.nest.specs.Decide.{too_deep, sound}
use Rattle.admit.specs.Limits as limits
use Rattle.tape.specs.Kind as kinds
use Rattle.tape.specs.Flag as flags
use Rattle.tape.specs.Category as categories
use Rattle.tape.specs.Element as elements

-- whether all indices below n pass a test
unfoldable pub all_below : (ℕ → Bool) → ℕ → Bool
all_below f zero = true
all_below f (suc n) = f n && all_below f n

-- 1: at least 36 bytes, format 1, offsets and the file's length as laid out
unfoldable pub laid_out : Bytes → Bool
laid_out file =
    leb header_len (length file)
    && (eqb (le32 file) limits.format
    && (eqb (le32 (drop 8 file)) (sections_of file).head
    && (eqb (le32 (drop 16 file)) (entries_at (sections_of file))
    && (eqb (le32 (drop 24 file)) (names_at (sections_of file))
    && (eqb (le32 (drop 32 file)) (source_at (sections_of file))
    && eqb (length file) (source_at (sections_of file) + (sections_of file).source))))))

-- 2: nodes, entries, names and source within their limits
unfoldable pub small : Bytes → Bool
small file =
    ltb 0 (sections_of file).nodes
    && (leb (sections_of file).nodes limits.most_nodes
    && (leb (sections_of file).entries limits.most_entries
    && (leb (sections_of file).names limits.most_names
    && leb (sections_of file).source limits.most_source)))

-- 4: a byte that can stand in a name
unfoldable pub good_byte : ℕ → Bool
good_byte x = leb limits.lowest_name_byte x && leb x limits.highest_name_byte

-- 4: an entry's name lies in the names, its category and its element are known
unfoldable pub good_entry : Tape → Entry → Bool
good_entry t e = leb (e.start + e.len) (length t.names) && (leb e.category.code categories.other && leb e.element.code elements.row)

-- 4: every name byte and every entry is good
unfoldable pub good_names : Tape → Bool
good_names t =
    all_below (λ i. good_byte (get_or t.names i 0)) (length t.names)
    && all_below (λ i. good_entry t (entry_at t i)) (length t.entries)

-- 5: a label is cut out of the marker name
unfoldable pub label_cut : Tape → ℕ → Bool
label_cut t k = leb (length (words Unicode (text_at_of t k))) 1 && ltb (base_len (info_at t k)) (length (marker_name t k))

-- 5: what is asked of a node
unfoldable pub good_node : Tape → ℕ → Bool
good_node t k =
    leb (kind_at t k) kinds.error
    && (leb (node_at t k).flags.bits flags.all
    && (cond (eqb (kind_at t k) kinds.root) (eqb k 0) (not (eqb k 0))
    && (leb ((node_at t k).start + (node_at t k).len) (length t.source)
    && (is_boundary t.source (node_at t k).start
    && (is_boundary t.source ((node_at t k).start + (node_at t k).len)
    && (cond (eqb (kind_at t k) kinds.chapter || eqb (kind_at t k) kinds.verse) (eqb (element_of (info_at t k)) elements.other) true
    && cond (eqb (kind_at t k) kinds.verse && label_cut t k) (is_boundary (marker_name t k) (base_len (info_at t k))) true))))))

-- 5: every node is good
unfoldable pub good_nodes : Tape → Bool
good_nodes t = all_below (good_node t) (length t.nodes)

-- the number of a file that is laid out and small
unfoldable pub refusal_in : Tape → ℕ
refusal_in t =
    elim (is_utf8 t.source) [
      | false ↦ 3
      | true ↦
          elim (good_names t) [
            | false ↦ 4
            | true ↦
                elim (good_nodes t) [
                  | false ↦ 5
                  | true ↦
                      elim (too_deep t.nodes) [
                        | true ↦ 6
                        | false ↦ elim (sound t.nodes) [ false ↦ 7 | true ↦ 0 ]
                      ]
                ]
          ]
    ]

-- the number of a file
unfoldable pub refusal : Bytes → ℕ
refusal file =
    elim (laid_out file) [
      | false ↦ 1
      | true ↦ elim (small file) [ false ↦ 2 | true ↦ refusal_in (tape_of file) ]
    ]
