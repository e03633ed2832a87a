-- The finished file: how long it is, its tape, and that document 01's rules admit it.
use mathlib.Core.Path.{◌≡◌, refl, sym, ap, ◌∙◌}
use mathlib.Core.List.{List, ◌∷◌, ◌++◌, append_assoc}
use Prim.Native.Nat.{ℕ, ◌+◌, ◌*◌}
use native.Mathlib.Numerals.{add-one}
use native.Mathlib.Omega.{arith}
use borrow.Author.Tests.{le-leb}
use lib.ListN.{length, drop, take, length-append, length-drop}
use lib.Seq.{drop-append-add, drop_at, take_at, take_all}
use Rattle.parts.specs.Bytes.{Bytes, part}
use Rattle.tape.specs.File.{le16, le32, node_fields_of, node_of, entry_of, records_of, sections_of, tape_in, tape_of, entries_at, names_at, source_at}
use Rattle.tape.specs.declared.Node.{Node}
use Rattle.tape.specs.declared.Sections.{Sections}
use Rattle.nest.specs.Nest.{Sound}
use Rattle.admit.specs.Rules.{LaidOut, Small, Utf8, GoodNames, GoodNodes}
use Rattle.admit.specs.Refusal.{Kept₃, Kept₅, Refusal, none}
use Rattle.draft.specs.Draft.{root_node, tape_from}
use Rattle.tape.proofs.Laws.{node_local, entry_local}
use Rattle.layout.specs.declared.Writer.{Writer}
use Rattle.layout.specs.Bytes.{node_bytes_of}
use Rattle.layout.specs.Layout.{Held, Fits, file_len, held_in, read_as, draft_of, header_bytes, top_of, file_of}
use Rattle.layout.proofs.Laid.{Counts, counts}
use Rattle.layout.proofs.Turn.{top_length}
use Rattle.layout.proofs.Back.{four_back, records_front}
use Rattle.layout.proofs.States.{nodes-count}

-- ---- header and Root

-- the sections of a state's file
abbrev sections_with : Writer → Sections
sections_with w = record { head = 36; nodes = w.nodes + 1; entries = w.entries; names = w.names; source = w.source }

sections_read : (w : Writer) (rest : Bytes) → sections_of (top_of w ++ rest) ≡ sections_with w
unfolding top_of header_bytes node_bytes_of sections_of le32 le16
sections_read w rest = rw (four_back (w.nodes + 1), four_back w.entries, four_back w.names, four_back w.source)

-- format and offsets are those of these sections
record Offsets (c : Sections) (file : Bytes) : Type 0 where
  format : le32 file ≡ 1
  nodes : le32 (drop 8 file) ≡ c.head
  entries : le32 (drop 16 file) ≡ entries_at c
  names : le32 (drop 24 file) ≡ names_at c
  source : le32 (drop 32 file) ≡ source_at c

offsets_read : (w : Writer) (rest : Bytes) → Offsets (sections_with w) (top_of w ++ rest)
unfolding top_of header_bytes node_bytes_of le32 le16
offsets_read w rest =
    record {
      format = refl;
      nodes = refl;
      entries = four_back (entries_at (sections_with w));
      names = four_back (names_at (sections_with w));
      source = four_back (source_at (sections_with w));
    }

-- Root, and what stands behind it
root_fields : (w : Writer) (rest : Bytes) → node_fields_of (drop 36 (top_of w ++ rest)) ≡ root_node (w.nodes + 1)
unfolding top_of header_bytes node_bytes_of node_fields_of le32 le16
root_fields w rest = rw (four_back (w.nodes + 1))

root_read : (w : Writer) (rest : Bytes) → node_of (drop 36 (top_of w ++ rest)) ≡ root_node (w.nodes + 1)
unfolding node_of
root_read w rest =
    let l : length (drop 36 (top_of w ++ rest)) ≡ 16 + length rest = length-drop 36 (top_of w ++ rest) ∙ omega (arith, length-append (top_of w) rest, top_length w) in
    rw (l, le-leb 16 (16 + length rest) (omega arith)) (root_fields w rest)

past-root : (w : Writer) (rest : Bytes) → drop 16 (drop 36 (top_of w ++ rest)) ≡ rest
unfolding top_of header_bytes node_bytes_of
past-root w rest = refl

-- ---- what follows

module _ (w : Writer) (h : Held) (c : Counts w h) where
  length_read : length (file_of w h) ≡ file_len w
  unfolding file_of
  length_read = simp (length-append, top_length w) (omega (arith, c.nodes, c.entries, c.names, c.source))

  nodes_read : records_of node_of 16 (w.nodes + 1) (drop 36 (file_of w h)) ≡ root_node (w.nodes + 1) ∷ records_of node_of 16 w.nodes h.nodes
  unfolding file_of records_of
  nodes_read =
      let rest : Bytes = h.nodes ++ (h.entries ++ (h.names ++ h.source)) in
      ap (λ (k : ℕ). records_of node_of 16 k (drop 36 (top_of w ++ rest))) (add-one w.nodes)
      ∙ (λ i. root_read w rest i ∷ records_of node_of 16 w.nodes (past-root w rest i))
      ∙ ap (λ (l : List Node). root_node (w.nodes + 1) ∷ l) (records_front node_of 16 node_local w.nodes h.nodes (h.entries ++ (h.names ++ h.source)) (omega (arith, c.nodes)))

  -- what stands behind the nodes
  behind : (j : ℕ) → drop (entries_at (sections_with w) + j) (file_of w h) ≡ drop j (h.entries ++ (h.names ++ h.source))
  unfolding file_of
  behind j =
      let t : length (top_of w) ≡ 52 = top_length w in
      let e : entries_at (sections_with w) + j ≡ length (top_of w) + (length h.nodes + j) = omega (arith, c.nodes) in
      ap (λ (k : ℕ). drop k (top_of w ++ (h.nodes ++ (h.entries ++ (h.names ++ h.source))))) e
      ∙ drop-append-add (top_of w) (h.nodes ++ (h.entries ++ (h.names ++ h.source))) (length h.nodes + j)
      ∙ drop-append-add h.nodes (h.entries ++ (h.names ++ h.source)) j

  entries_read : records_of entry_of 8 w.entries (drop (entries_at (sections_with w)) (file_of w h)) ≡ records_of entry_of 8 w.entries h.entries
  entries_read =
      let z : entries_at (sections_with w) ≡ entries_at (sections_with w) + 0 = omega arith in
      ap (records_of entry_of 8 w.entries) (ap (λ (k : ℕ). drop k (file_of w h)) z ∙ behind 0)
      ∙ records_front entry_of 8 entry_local w.entries h.entries (h.names ++ h.source) (omega (arith, c.entries))

  names_read : part (file_of w h) (names_at (sections_with w)) w.names ≡ h.names
  names_read =
      ap (take w.names) (behind (8 * w.entries) ∙ drop_at h.entries (h.names ++ h.source) (8 * w.entries) c.entries)
      ∙ take_at h.names h.source w.names c.names

  source_read : part (file_of w h) (source_at (sections_with w)) w.source ≡ h.source
  source_read =
      let j : ℕ = 8 * w.entries + w.names in
      let z : source_at (sections_with w) ≡ entries_at (sections_with w) + j = omega arith in
      let m : length (h.entries ++ h.names) ≡ j = length-append h.entries h.names ∙ omega (arith, c.entries, c.names) in
      ap (take w.source)
      (ap (λ (k : ℕ). drop k (file_of w h)) z ∙ behind j ∙ ap (drop j) (sym (append_assoc h.entries h.names h.source)) ∙ drop_at (h.entries ++ h.names) h.source j m)
      ∙ take_all w.source h.source (omega (arith, c.source))

  file_sections : sections_of (file_of w h) ≡ sections_with w
  unfolding file_of
  file_sections = sections_read w (h.nodes ++ (h.entries ++ (h.names ++ h.source)))

  file_offsets : Offsets (sections_of (file_of w h)) (file_of w h)
  unfolding file_of
  file_offsets = rw file_sections (offsets_read w (h.nodes ++ (h.entries ++ (h.names ++ h.source))))

-- ---- the file of a state and a buffer

module _ (w : Writer) (buf : Bytes) (f : Fits w (length buf)) where
  pub file-length : length (file_of w (held_in w buf)) ≡ file_len w
  file-length = length_read w (held_in w buf) (counts w buf f)

  -- its tape is that of the draft
  pub file-tape : tape_of (file_of w (held_in w buf)) ≡ tape_from (draft_of w buf)
  unfolding tape_of tape_in tape_from read_as
  file-tape =
      let h : Held = held_in w buf in
      let c : Counts w h = counts w buf f in
      let root : root_node (w.nodes + 1) ∷ records_of node_of 16 w.nodes h.nodes ≡ root_node (length (draft_of w buf).nodes + 1) ∷ records_of node_of 16 w.nodes h.nodes =
      ap (λ (k : ℕ). root_node (k + 1) ∷ records_of node_of 16 w.nodes h.nodes) (sym (nodes-count w buf f)) in
      ap (λ (s : Sections). tape_in s (file_of w h)) (file_sections w h c)
      ∙ (λ i. record { nodes = (nodes_read w h c ∙ root) i; entries = entries_read w h c i; names = names_read w h c i; source = source_read w h c i })

  -- it keeps the rules of 1 and 2
  pub file-laid : LaidOut (file_of w (held_in w buf))
  file-laid =
      let o : Offsets (sections_of (file_of w (held_in w buf))) (file_of w (held_in w buf)) = file_offsets w (held_in w buf) (counts w buf f) in
      record {
        header = omega (arith, file-length);
        format = o.format;
        nodes = o.nodes;
        entries = o.entries;
        names = o.names;
        source = o.source;
        whole = rw (file_sections w (held_in w buf) (counts w buf f)) (file-length ∙ omega arith);
      }

  pub file-small : Small (file_of w (held_in w buf))
  file-small =
      let s : sections_of (file_of w (held_in w buf)) ≡ sections_with w = file_sections w (held_in w buf) (counts w buf f) in
      record {
        some = rw s (omega arith);
        nodes = rw s (omega (arith, f.nodes));
        entries = rw s f.entries;
        names = rw s f.names;
        source = rw s f.source;
      }

  -- a file whose tape keeps the rules of 3 to 7 is admitted
  pub file_admitted : Utf8 (tape_from (draft_of w buf)) → GoodNames (tape_from (draft_of w buf)) → GoodNodes (tape_from (draft_of w buf)) → Sound (tape_from (draft_of w buf)).nodes
      → Refusal (file_of w (held_in w buf)) 0
  file_admitted utf8 names nodes sound =
      let t : tape_of (file_of w (held_in w buf)) ≡ tape_from (draft_of w buf) = file-tape in
      let kept₃ : Kept₃ (file_of w (held_in w buf)) = record { kept = record { kept = record { laid = file-laid }; small = file-small }; utf8 = rw t utf8 } in
      let kept₅ : Kept₅ (file_of w (held_in w buf)) = record { kept = record { kept = kept₃; names = rw t names }; nodes = rw t nodes } in
      none (record { kept = record { kept = kept₅; shallow = rw t sound.shallow }; nested = rw t sound.nested })
