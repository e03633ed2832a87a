-- Laws of the tape's records: each field of a node or an entry is what stands in the file.
use mathlib.Core.Path.{◌≡◌, refl, sym, ap, ◌∙◌}
use mathlib.Core.Bool.{Bool, true, false, cond, ◌&&◌, ◌||◌}
use mathlib.Core.List.{[], ◌∷◌, ◌++◌}
use Prim.Native.Nat.{ℕ, zero, suc, ◌+◌, ◌-◌, ◌*◌, ◌≤◌, ◌<◌, ◌^◌, min}
use native.Mathlib.Nat.{mul-zero, mul-suc, add_comm}
use native.Mathlib.Omega.{arith}
use lib.ListN.{length, get_or, take, drop, take-append-drop, length-append, length-drop, length-take, get_or-eq_default, get_or-append}
use lib.Seq.{drop-drop, get_or-drop}
use lib.Dec.{eqb, leb, ltb}
use borrow.Author.Tests.{eq-eqb, ne_eqb, lt-ltb, le-ltb, ltb-true, ltb-false, le-leb, lt-leb, leb-true, leb-false}
use Rattle.parts.specs.Bytes.{Bytes, part}
use Rattle.tape.specs.File.{le16, le32, node_fields_of, entry_fields_of, node_of, entry_of, bytes_at, entry_bytes_at, records_of, Tape, tape_in, entries_at, names_at, source_at, sections_of, nowhere, nameless, node_at, entry_at, kind_at, text_at_of, entry_name, is_synthetic, is_nested, bears_marker, info_at, number_at, category_of, element_of, base_len, info_name}
use Rattle.tape.specs.Tree.{is_close, holds, matching_close, child_before, first_child, last_held, sibling_past, next_sibling}
use Rattle.tape.specs.declared.kinds.Kind.{Kind}
use Rattle.tape.specs.declared.kinds.Flags.{Flags}
use Rattle.tape.specs.declared.kinds.Category.{Category}
use Rattle.tape.specs.declared.kinds.Element.{Element}
use Rattle.tape.specs.declared.Node.{Node}
use Rattle.tape.specs.declared.Entry.{Entry}
use Rattle.tape.specs.declared.Sections.{Sections}
use Rattle.tape.specs.declared.Cursor.{Cursor}
use Rattle.tape.specs.Found.{Info}
use Rattle.tape.specs.Found.{Step}
use Rattle.std.specs.Prelude.{None, Some}
use Rattle.tape.specs.Flag as flags

-- ---- numbers

-- ---- records

pub sections_made : (s : Bytes) {n e m z : ℕ} {a b c d : Bytes} → a ≡ drop 4 s → n ≡ le32 a → b ≡ drop 12 s → e ≡ le32 b → c ≡ drop 20 s → m ≡ le32 c
    → d ≡ drop 28 s → z ≡ le32 d → ◌≡◌ {A = Sections} (record { head = 36; nodes = n; entries = e; names = m; source = z }) (sections_of s)
unfolding sections_of
sections_made s ea en eb ee ec em ed ez = rw (en, ea, ee, eb, em, ec, ez, ed)

-- a byte behind a place
behind : (s : Bytes) (k i : ℕ) → get_or (drop k s) i 0 ≡ get_or s (k + i) 0
behind s k i = get_or-drop k s i 0

quad_at : (s : Bytes) (k : ℕ) → get_or s k 0 + 256 * get_or s (k + 1) 0 + 65536 * (get_or s (k + 2) 0 + 256 * get_or s (k + 3) 0) ≡ le32 (drop k s)
unfolding le32 le16
quad_at s k =
    let two : drop 2 (drop k s) ≡ drop (k + 2) s = drop-drop 2 k s in
    let low : get_or s (k + 0) 0 ≡ get_or s k 0 = ap (λ (i : ℕ). get_or s i 0) (omega arith) in
    let high : get_or s (k + 2 + 0) 0 ≡ get_or s (k + 2) 0 = ap (λ (i : ℕ). get_or s i 0) (omega arith) in
    let last : get_or s (k + 2 + 1) 0 ≡ get_or s (k + 3) 0 = ap (λ (i : ℕ). get_or s i 0) (omega arith) in
    rw (two, behind s k 0, behind s k 1, behind s (k + 2) 0, behind s (k + 2) 1, low, high, last)

-- what a constructor of no node or entry makes
nowhere_of : {z : Kind} {f : Flags} → z.code ≡ 8 → f.bits ≡ 0
    → ◌≡◌ {A = Node} (record { kind = z; flags = f; marker = 65535; link = 0; start = 0; len = 0 }) nowhere
nowhere_of {f = f} ez ef = ap (λ (x : ℕ). made x f.bits) ez ∙ ap (made 8) ef
  where
    made : ℕ → ℕ → Node
    made x y = record { kind = record { code = x }; flags = record { bits = y }; marker = 65535; link = 0; start = 0; len = 0 }

nameless_of : {g : Category} {z : Element} → g.code ≡ 7 → z.code ≡ 0
    → ◌≡◌ {A = Entry} (record { start = 0; len = 0; category = g; element = z }) nameless
nameless_of {z = z} eg ez = ap (λ (x : ℕ). made x z.code) eg ∙ ap (made 7) ez
  where
    made : ℕ → ℕ → Entry
    made x y = record { start = 0; len = 0; category = record { code = x }; element = record { code = y } }

-- the node of 16 bytes that are all there
pub node_read : (s : Bytes) {k : Kind} {f : Flags} {m l a n : ℕ} → 16 ≤ length s
    → k.code ≡ get_or s 0 0 → f.bits ≡ get_or s 1 0 → m ≡ get_or s 2 0 + 256 * get_or s 3 0
    → l ≡ get_or s 4 0 + 256 * get_or s 5 0 + 65536 * (get_or s 6 0 + 256 * get_or s 7 0)
    → a ≡ get_or s 8 0 + 256 * get_or s 9 0 + 65536 * (get_or s 10 0 + 256 * get_or s 11 0)
    → n ≡ get_or s 12 0 + 256 * get_or s 13 0 + 65536 * (get_or s 14 0 + 256 * get_or s 15 0)
    → ◌≡◌ {A = Node} (record { kind = k; flags = f; marker = m; link = l; start = a; len = n }) (node_of s)
unfolding node_of node_fields_of le16
node_read s h ek ef em el ea en =
    let kind : ◌≡◌ {A = Kind} _ (record { code = get_or s 0 0 }) = ap (λ (z : ℕ). record { code = z }) ek in
    let flag : ◌≡◌ {A = Flags} _ (record { bits = get_or s 1 0 }) = ap (λ (z : ℕ). record { bits = z }) ef in
    rw (le-leb 16 (length s) h, kind, flag, em, behind s 2 0, behind s 2 1, el ∙ quad_at s 4, ea ∙ quad_at s 8, en ∙ quad_at s 12)

-- fewer bytes are no node
pub node_short : (s : Bytes) {z : Kind} {f : Flags} → length s < 16 → z.code ≡ 8 → f.bits ≡ 0
    → ◌≡◌ {A = Node} (record { kind = z; flags = f; marker = 65535; link = 0; start = 0; len = 0 }) (node_of s)
unfolding node_of
node_short s h ez ef = rw (lt-leb 16 (length s) h) (nowhere_of ez ef)

-- the entry of 8 bytes that are all there
pub entry_read : (s : Bytes) {l m : ℕ} {k : Category} {e : Element} → 8 ≤ length s
    → l ≡ get_or s 0 0 + 256 * get_or s 1 0 + 65536 * (get_or s 2 0 + 256 * get_or s 3 0) → m ≡ get_or s 4 0 + 256 * get_or s 5 0
    → k.code ≡ get_or s 6 0 → e.code ≡ get_or s 7 0
    → ◌≡◌ {A = Entry} (record { start = l; len = m; category = k; element = e }) (entry_of s)
unfolding entry_of entry_fields_of le16
entry_read s h el em ek ee =
    let cat : ◌≡◌ {A = Category} _ (record { code = get_or s 6 0 }) = ap (λ (z : ℕ). record { code = z }) ek in
    let elt : ◌≡◌ {A = Element} _ (record { code = get_or s 7 0 }) = ap (λ (z : ℕ). record { code = z }) ee in
    rw (le-leb 8 (length s) h, el ∙ quad_at s 0, em, behind s 4 0, behind s 4 1, cat, elt)

-- fewer bytes are no entry
pub entry_short : (s : Bytes) {g : Category} {z : Element} → length s < 8 → g.code ≡ 7 → z.code ≡ 0
    → ◌≡◌ {A = Entry} (record { start = 0; len = 0; category = g; element = z }) (entry_of s)
unfolding entry_of
entry_short s h eg ez = rw (lt-leb 8 (length s) h) (nameless_of eg ez)

-- the number of four bytes, what is missing counting 0
pub le32_read : (s : Bytes) {a e i o r : ℕ} → a ≡ get_or s 0 0 → e ≡ get_or s 1 0 → i ≡ get_or s 2 0 → o ≡ get_or s 3 0 → r ≡ a + 256 * e + 65536 * (i + 256 * o) → r ≡ le32 s
le32_read s ea ee ei eo er = rw (er, ea, ee, ei, eo) (quad_at s 0)

-- the record at an index is what stands so many records further on
pub records_at : {A : Type 0} (read : Bytes → A) (size n : ℕ) (s : Bytes) (i : ℕ) (d : A) → i < n
    → get_or (records_of read size n s) i d ≡ read (drop (size * i) s)
unfolding records_of
records_at read size zero s i d h = absurd (omega arith)
records_at read size (suc n) s zero d h = ap (λ (k : ℕ). read (drop k s)) (sym (mul-zero size))
records_at read size (suc n) s (suc i) d h =
    records_at read size n (drop size s) i d (omega arith)
    ∙ ap read (drop-drop (size * i) size s ∙ ap (λ (k : ℕ). drop k s) (sym (size_suc size i)))
  where
    size_suc : (a b : ℕ) → a * suc b ≡ a + a * b
    size_suc a b = mul-suc a b ∙ add_comm (a * b) a

pub records_length : {A : Type 0} (read : Bytes → A) (size n : ℕ) (s : Bytes) → length (records_of read size n s) ≡ n
unfolding records_of
records_length read size zero s = refl
records_length read size (suc n) s = ap suc (records_length read size n (drop size s))

-- ---- records that their constructors make

at_of : {s : Cursor} {k : ℕ} → s.at ≡ k → Some s ≡ Some (record { at = k })
at_of e = ap (λ (k : ℕ). Some (record { at = k })) e

-- ---- the record at an index, in the file

-- a byte of the first of two lists, behind a place
front : (s t : Bytes) (k i : ℕ) → k + i < length s → get_or (drop k (s ++ t)) i 0 ≡ get_or (drop k s) i 0
front s t k i h = get_or-drop k (s ++ t) i 0 ∙ get_or-append s t 0 (k + i) h ∙ sym (get_or-drop k s i 0)

le16_front : (s t : Bytes) (k : ℕ) → k + 2 ≤ length s → le16 (drop k (s ++ t)) ≡ le16 (drop k s)
unfolding le16
le16_front s t k h = rw (front s t k 0 (omega arith), front s t k 1 (omega arith))

le32_front : (s t : Bytes) (k : ℕ) → k + 4 ≤ length s → le32 (drop k (s ++ t)) ≡ le32 (drop k s)
unfolding le32
le32_front s t k h = rw (drop-drop 2 k (s ++ t), drop-drop 2 k s, le16_front s t k (omega arith), le16_front s t (k + 2) (omega arith))

-- a record reads its own bytes only
abbrev pub Local : {A : Type 0} → (Bytes → A) → ℕ → Type 0
Local read size = (s t : Bytes) → size ≤ length s → read (s ++ t) ≡ read s

pub node_local : Local node_of 16
unfolding node_of node_fields_of
node_local s t h =
    rw (le-leb 16 (length (s ++ t)) (omega (arith, length-append s t)), le-leb 16 (length s) h, front s t 0 0 (omega arith), front s t 0 1 (omega arith), le16_front s t 2 (omega arith), le32_front s t 4 (omega arith), le32_front s t 8 (omega arith), le32_front s t 12 (omega arith))

pub entry_local : Local entry_of 8
unfolding entry_of entry_fields_of
entry_local s t h =
    rw (le-leb 8 (length (s ++ t)) (omega (arith, length-append s t)), le-leb 8 (length s) h, le32_front s t 0 (omega arith), le16_front s t 4 (omega arith), front s t 0 6 (omega arith), front s t 0 7 (omega arith))

no_node : (s : Bytes) → length s < 16 → node_of s ≡ nowhere
unfolding node_of
no_node s h = rw (lt-leb 16 (length s) h)

no_entry : (s : Bytes) → length s < 8 → entry_of s ≡ nameless
unfolding entry_of
no_entry s h = rw (lt-leb 8 (length s) h)

-- so many records of a size stand at a place: the bytes of one, all or none, are what it is read from
module _ {A : Type 0} (read : Bytes → A) (none : A) (size : ℕ) (local : Local read size) (short : (s : Bytes) → length s < size → read s ≡ none) (some : 0 < size) (file : Bytes) (at n k : ℕ) where
  there : k < n → read (drop (at + size * k) file) ≡ get_or (records_of read size n (drop at file)) k none
  there h = ap read (sym (drop-drop (size * k) at file)) ∙ sym (records_at read size n (drop at file) k none h)

  out : n ≤ k → none ≡ get_or (records_of read size n (drop at file)) k none
  out h = sym (get_or-eq_default (records_of read size n (drop at file)) none (rw (records_length read size n (drop at file)) h))

  pub record_bytes : read (cond (ltb k n && leb (at + size * k + size) (length file)) (part file (at + size * k) size) []) ≡ get_or (records_of read size n (drop at file)) k none
  record_bytes = go (ltb k n) refl (leb (at + size * k + size) (length file)) refl
    where
      p : ℕ
      p = at + size * k

      go : (b : Bool) → ltb k n ≡ b → (d : Bool) → leb (p + size) (length file) ≡ d
          → read (cond (b && d) (part file p size) []) ≡ get_or (records_of read size n (drop at file)) k none
      go true eb true ed =
          let h : p + size ≤ length file = leb-true (p + size) (length file) ed in
          let l : size ≤ length (take size (drop p file)) = omega (arith, length-take size (drop p file), length-drop p file) in
          sym (local (take size (drop p file)) (drop size (drop p file)) l) ∙ ap read (take-append-drop size (drop p file)) ∙ there (ltb-true k n eb)
      go true eb false ed =
          let h : length file < p + size = leb-false (p + size) (length file) ed in
          short [] some ∙ sym (short (drop p file) (omega (arith, length-drop p file))) ∙ there (ltb-true k n eb)
      go false eb d ed = short [] some ∙ out (ltb-false k n eb)

module _ (c : Sections) (file : Bytes) (k : ℕ) where
  pub node_in : {s : Bytes} {n : Node} → s ≡ bytes_at c file k → n ≡ node_of s → n ≡ node_at (tape_in c file) k
  unfolding bytes_at node_at tape_in
  node_in es en = en ∙ ap node_of es ∙ record_bytes node_of nowhere 16 node_local no_node (omega arith) file c.head c.nodes k

  pub node_out : c.nodes ≤ k → nowhere ≡ node_at (tape_in c file) k
  unfolding node_at tape_in
  node_out h = out node_of nowhere 16 node_local no_node (omega arith) file c.head c.nodes k h

  pub entry_in : {s : Bytes} {e : Entry} → s ≡ entry_bytes_at c file k → e ≡ entry_of s → e ≡ entry_at (tape_in c file) k
  unfolding entry_bytes_at entry_at tape_in
  entry_in es en = en ∙ ap entry_of es ∙ record_bytes entry_of nameless 8 entry_local no_entry (omega arith) file (entries_at c) c.entries k

  -- the bytes of a node that are all there, and where they are not
  pub bytes_there : {p e : ℕ} {r : Bytes} → k < c.nodes → p ≡ c.head + 16 * k → e ≡ p + 16 → e ≤ length file → r ≡ take (e - p) (drop p file) → r ≡ bytes_at c file k
  unfolding bytes_at
  bytes_there {p} {e} h ep ee l er =
      let z : e - p ≡ 16 = omega arith in
      rw (lt-ltb k c.nodes h, le-leb (c.head + 16 * k + 16) (length file) (omega arith), er, z, ep)

  -- the same of an entry
  pub entry_there : {a m : ℕ} {r : Bytes} → k < c.entries → a ≡ entries_at c → m ≡ k → a + 8 * m + 8 ≤ length file
      → r ≡ take (a + 8 * m + 8 - (a + 8 * m)) (drop (a + 8 * m) file) → r ≡ entry_bytes_at c file k
  unfolding entry_bytes_at
  entry_there {a} {m} h ea em l er =
      let z : a + 8 * m + 8 - (a + 8 * m) ≡ 8 = omega arith in
      let y : a + 8 * m ≡ entries_at c + 8 * k = omega arith in
      rw (lt-ltb k c.entries h, le-leb (entries_at c + 8 * k + 8) (length file) (omega arith), er, z, y)

  pub entry-cut : {a m : ℕ} {r : Bytes} → k < c.entries → a ≡ entries_at c → m ≡ k → length file < a + 8 * m + 8 → r ≡ [] → r ≡ entry_bytes_at c file k
  unfolding entry_bytes_at
  entry-cut h ea em l er = rw (lt-ltb k c.entries h, lt-leb (entries_at c + 8 * k + 8) (length file) (omega arith), er)

  pub entry_out : {r : Bytes} → c.entries ≤ k → r ≡ [] → r ≡ entry_bytes_at c file k
  unfolding entry_bytes_at
  entry_out h er = rw (le-ltb k c.entries h, er)

  pub bytes_cut : {p e : ℕ} {r : Bytes} → k < c.nodes → p ≡ c.head + 16 * k → e ≡ p + 16 → length file < e → r ≡ [] → r ≡ bytes_at c file k
  unfolding bytes_at
  bytes_cut h ep ee l er = rw (lt-ltb k c.nodes h, lt-leb (c.head + 16 * k + 16) (length file) (omega arith), er)

  pub bytes_out : {r : Bytes} → c.nodes ≤ k → r ≡ [] → r ≡ bytes_at c file k
  unfolding bytes_at
  bytes_out h er = rw (le-ltb k c.nodes h, er)

pub node-count : (c : Sections) (file : Bytes) → length (tape_in c file).nodes ≡ c.nodes
unfolding tape_in
node-count c file = records_length node_of 16 c.nodes (drop c.head file)

pub entry-count : (c : Sections) (file : Bytes) → length (tape_in c file).entries ≡ c.entries
unfolding tape_in
entry-count c file = records_length entry_of 8 c.entries (drop (entries_at c) file)

pub names_in : (c : Sections) (file : Bytes) {a n : ℕ} {r : Bytes} → a ≡ names_at c → n ≡ c.names → r ≡ part file a n → r ≡ (tape_in c file).names
unfolding tape_in
names_in c file ea en er = er ∙ rw (ea, en)

pub source_in : (c : Sections) (file : Bytes) {a n : ℕ} {r : Bytes} → a ≡ source_at c → n ≡ c.source → r ≡ part file a n → r ≡ (tape_in c file).source
unfolding tape_in
source_in c file ea en er = er ∙ rw (ea, en)

pub entry_name_in : (t : Tape) (e : Entry) {ns r : Bytes} {a n : ℕ} → ns ≡ t.names → a ≡ e.start → n ≡ e.len → r ≡ part ns a n → r ≡ entry_name t e
unfolding entry_name
entry_name_in t e es ea en er = er ∙ rw (es, ea, en)

-- ---- one of two numbers

pub either_first : (a x : ℕ) (z : Bool) → a ≡ x → eqb a x || z ≡ true
either_first a x z h = rw (eq-eqb a x h)

pub either_second : (a x : ℕ) (z : Bool) → (a ≡ x → ⊥) → eqb a x || z ≡ z
either_second a x z h = rw (ne_eqb a x h)

pub close-first : (k : ℕ) → k ≡ 4 → true ≡ is_close k
unfolding is_close
close-first k h = sym (either_first k 4 (eqb k 5) h)

pub close_second : (k : ℕ) → (k ≡ 4 → ⊥) → eqb k 5 ≡ is_close k
unfolding is_close
close_second k h = sym (either_second k 4 (eqb k 5) h)

-- ---- fields of a node that is read

module _ (t : Tape) (k : ℕ) {n : Node} (e : n ≡ node_at t k) where
  pub kind_of : n.kind.code ≡ kind_at t k
  kind_of = ap (λ (m : Node). m.kind.code) e

  pub link_of_lem : n.link ≡ (node_at t k).link
  link_of_lem = ap (λ (m : Node). m.link) e

  pub start_of : n.start ≡ (node_at t k).start
  start_of = ap (λ (m : Node). m.start) e

  pub len_of : n.len ≡ (node_at t k).len
  len_of = ap (λ (m : Node). m.len) e

  pub marker_of : n.marker ≡ (node_at t k).marker
  marker_of = ap (λ (m : Node). m.marker) e

  pub flags_of : n.flags.bits ≡ (node_at t k).flags.bits
  flags_of = ap (λ (m : Node). m.flags.bits) e

  pub number-chapter : n.kind.code ≡ 6 → n.link ≡ number_at t k
  unfolding number_at
  number-chapter h = rw (either_first (kind_at t k) 6 (eqb (kind_at t k) 7) (sym kind_of ∙ h)) link_of_lem

  pub number-verse : (n.kind.code ≡ 6 → ⊥) → n.kind.code ≡ 7 → n.link ≡ number_at t k
  unfolding number_at
  number-verse g h =
      rw (either_second (kind_at t k) 6 (eqb (kind_at t k) 7) (λ z. g (kind_of ∙ z)), eq-eqb (kind_at t k) 7 (sym kind_of ∙ h)) link_of_lem

  pub number-none : (n.kind.code ≡ 6 → ⊥) → (n.kind.code ≡ 7 → ⊥) → 0 ≡ number_at t k
  unfolding number_at
  number-none g h =
      rw (either_second (kind_at t k) 6 (eqb (kind_at t k) 7) (λ z. g (kind_of ∙ z)), ne_eqb (kind_at t k) 7 (λ z. h (kind_of ∙ z)))

module _ (t : Tape) (k : ℕ) {z : Flags} (e : z.bits ≡ (node_at t k).flags.bits) where
  pub synthetic_of : flags.has_flag flags.synthetic z.bits ≡ is_synthetic t k
  unfolding is_synthetic
  synthetic_of = ap (flags.has_flag flags.synthetic) e

  pub nested_of : flags.has_flag flags.nested z.bits ≡ is_nested t k
  unfolding is_nested
  nested_of = ap (flags.has_flag flags.nested) e

pub text_of : (t : Tape) (k : ℕ) {m l a n : ℕ} {src r : Bytes} → m ≡ (node_at t k).start → a ≡ m → src ≡ t.source → l ≡ (node_at t k).len → n ≡ l → r ≡ part src a n → r ≡ text_at_of t k
unfolding text_at_of
text_of t k em ea es el en er = er ∙ rw (es, ea, em, en, el)

pub tail_of : (t : Tape) (k : ℕ) {m a : ℕ} {src r : Bytes} → m ≡ (node_at t k).start → a ≡ m → src ≡ t.source → r ≡ drop a src → r ≡ drop (node_at t k).start t.source
tail_of t k em ea es er = er ∙ rw (es, ea, em)

-- the text of a node is so many of the first bytes of what stands from its span on
pub text_front : (t : Tape) (n : ℕ) → take (length (text_at_of t n)) (drop (node_at t n).start t.source) ≡ text_at_of t n
unfolding text_at_of
text_front t n = take_short (node_at t n).len (drop (node_at t n).start t.source)
  where
    take_short : (m : ℕ) (s : Bytes) → take (length (take m s)) s ≡ take m s
    take_short zero s = refl
    take_short (suc m) [] = refl
    take_short (suc m) (x ∷ s) = ap (λ (z : Bytes). x ∷ z) (take_short m s)

module _ (t : Tape) (k : ℕ) {l n : ℕ} {r : Bytes} (er : r ≡ drop (node_at t k).start t.source) (el : l ≡ (node_at t k).len) (en : n ≡ l) where
  size_is : min n (length r) ≡ length (text_at_of t k)
  unfolding text_at_of
  size_is = rw (en, el, er) (sym (length-take (node_at t k).len (drop (node_at t k).start t.source)))

  pub size_whole : n < length r → n ≡ length (text_at_of t k)
  size_whole h = omega (arith, size_is)

  pub size_cut : length r ≤ n → length r ≡ length (text_at_of t k)
  size_cut h = omega (arith, size_is)

module _ (t : Tape) (k : ℕ) {z : Kind} (ez : z.code ≡ kind_at t k) where
  pub close_of : z.code ≡ 3 → {l : ℕ} {s : Cursor} → l ≡ (node_at t k).link → s.at ≡ l → Some s ≡ matching_close t k
  unfolding matching_close
  close_of h el es = rw (eq-eqb (kind_at t k) 3 (sym ez ∙ h)) (at_of (es ∙ el))

  pub close-none : (z.code ≡ 3 → ⊥) → None ≡ matching_close t k
  unfolding matching_close
  close-none h = rw (ne_eqb (kind_at t k) 3 (λ x. h (ez ∙ x)))

  module _ {h : Bool} (eh : h ≡ holds z.code) where
    pub last-link : h ≡ true → {l : ℕ} → l ≡ (node_at t k).link → l ≡ last_held t k
    unfolding last_held
    last-link y el = rw (ap holds (sym ez) ∙ sym eh ∙ y) el

    pub last_self : h ≡ false → k ≡ last_held t k
    unfolding last_held
    last_self y = rw (ap holds (sym ez) ∙ sym eh ∙ y)

    pub child_none : h ≡ false → None ≡ first_child t k
    unfolding first_child
    child_none y = rw (ap holds (sym ez) ∙ sym eh ∙ y)

  pub info_plain : {h : Bool} → h ≡ bears_marker z.code → h ≡ false → None ≡ info_at t k
  unfolding info_at
  info_plain eh h = rw (ap bears_marker (sym ez) ∙ sym eh ∙ h)

-- ---- where the count of nodes or entries decides

module _ (c : Sections) (file : Bytes) (k : ℕ) {z : Kind} (ez : z.code ≡ kind_at (tape_in c file) k) where
  pub child_some : {h : Bool} → h ≡ holds z.code → h ≡ true → {l : ℕ} → l ≡ (node_at (tape_in c file) k).link → {s : Step} → s ≡ child_before c.nodes k l → s ≡ first_child (tape_in c file) k
  unfolding first_child
  child_some eh h el es = rw (ap holds (sym ez) ∙ sym eh ∙ h, node-count c file) (es ∙ ap (child_before c.nodes k) el)

  module _ {h : Bool} (eh : h ≡ bears_marker z.code) (y : h ≡ true) {l m : ℕ} (el : l ≡ (node_at (tape_in c file) k).marker) (em : m ≡ l) where
    pub info_known : m < c.entries → {i : Entry} → i ≡ entry_at (tape_in c file) m → Some i ≡ info_at (tape_in c file) k
    unfolding info_at
    info_known b ei = rw (ap bears_marker (sym ez) ∙ sym eh ∙ y, entry-count c file, ← el, ← em, lt-ltb _ _ b, ei)

    pub info_unknown : c.entries ≤ m → None ≡ info_at (tape_in c file) k
    unfolding info_at
    info_unknown b = rw (ap bears_marker (sym ez) ∙ sym eh ∙ y, entry-count c file, ← el, ← em, le-ltb _ _ b)

-- ---- steps

module _ (nodes k link : ℕ) where
  pub before_back : link ≤ k → None ≡ child_before nodes k link
  unfolding child_before
  before_back h = rw (le-ltb (k + 1) link (omega arith))

  pub before_none : link ≤ k + 1 → None ≡ child_before nodes k link
  unfolding child_before
  before_none h = rw (le-ltb (k + 1) link h)

  pub before_some : {s : Cursor} → k + 1 < link → k + 1 < nodes → s.at ≡ k + 1 → Some s ≡ child_before nodes k link
  unfolding child_before
  before_some h l es = rw (lt-ltb (k + 1) link h, lt-ltb (k + 1) nodes l) (at_of es)

  pub before_out : k + 1 < link → nodes ≤ k + 1 → None ≡ child_before nodes k link
  unfolding child_before
  before_out h l = rw (lt-ltb (k + 1) link h, le-ltb (k + 1) nodes l)

module _ (c : Sections) (file : Bytes) (k last : ℕ) where
  pub past_back : last < k → None ≡ sibling_past (tape_in c file) k last
  unfolding sibling_past
  past_back h = rw (lt-ltb last k h)

  pub past_out : k ≤ last → c.nodes ≤ last + 1 → None ≡ sibling_past (tape_in c file) k last
  unfolding sibling_past
  past_out h l = rw (le-ltb last k h, node-count c file, le-ltb (last + 1) c.nodes l)

  pub past_far : k ≤ last → c.nodes ≤ last → None ≡ sibling_past (tape_in c file) k last
  past_far h l = past_out h (omega arith)

  pub past-close : {s : Cursor} {z : Kind} {x : Bool} → k ≤ last → last + 1 < c.nodes → s.at ≡ last + 1 → z.code ≡ kind_at (tape_in c file) s.at
      → x ≡ is_close z.code → x ≡ true → None ≡ sibling_past (tape_in c file) k last
  unfolding sibling_past
  past-close h l es ek ec x = rw (le-ltb last k h, node-count c file, lt-ltb (last + 1) c.nodes l, ← es, ← ek, ← ec, x)

  pub past-some : {s : Cursor} {z : Kind} {x : Bool} → k ≤ last → last + 1 < c.nodes → s.at ≡ last + 1 → z.code ≡ kind_at (tape_in c file) s.at
      → x ≡ is_close z.code → x ≡ false → Some s ≡ sibling_past (tape_in c file) k last
  unfolding sibling_past
  past-some h l es ek ec x = rw (le-ltb last k h, node-count c file, lt-ltb (last + 1) c.nodes l, ← es, ← ek, ← ec, x)

pub next_of : (t : Tape) (k : ℕ) {l : ℕ} {s : Step} → l ≡ last_held t k → s ≡ sibling_past t k l → s ≡ next_sibling t k
unfolding next_sibling
next_of t k el es = es ∙ ap (sibling_past t k) el

-- ---- the entry of a node, taken apart

module _ {i j : Info} (ei : i ≡ j) where
  pub category_known : (e : Entry) → i ≡ Some e → e.category.code ≡ category_of j
  unfolding category_of
  category_known e h = ap category_of (sym h ∙ ei)

  pub category-unknown : {c : Category} → i ≡ None → c.code ≡ 7 → c.code ≡ category_of j
  unfolding category_of
  category-unknown h e = e ∙ ap category_of (sym h ∙ ei)

  pub element_known : (e : Entry) → i ≡ Some e → e.element.code ≡ element_of j
  unfolding element_of
  element_known e h = ap element_of (sym h ∙ ei)

  pub element-unknown : {c : Element} → i ≡ None → c.code ≡ 0 → c.code ≡ element_of j
  unfolding element_of
  element-unknown h e = e ∙ ap element_of (sym h ∙ ei)

  pub base_known : (e : Entry) {n : ℕ} → i ≡ Some e → n ≡ e.len → n ≡ base_len j
  unfolding base_len
  base_known e h en = en ∙ ap base_len (sym h ∙ ei)

  pub base_unknown : i ≡ None → 0 ≡ base_len j
  unfolding base_len
  base_unknown h = ap base_len (sym h ∙ ei)

  pub name_known : (t : Tape) (e : Entry) {r : Bytes} → i ≡ Some e → r ≡ entry_name t e → r ≡ info_name t j
  unfolding info_name
  name_known t e h er = er ∙ ap (info_name t) (sym h ∙ ei)

  pub name-unknown : (t : Tape) {r : Bytes} → i ≡ None → r ≡ [] → r ≡ info_name t j
  unfolding info_name
  name-unknown t h er = er ∙ ap (info_name t) (sym h ∙ ei)

-- ---- where each field stands in the file

module _ (c : Sections) (file : Bytes) (k : ℕ) (h : k < c.nodes) (l : c.head + 16 * k + 16 ≤ length file) where
  node_bytes : node_at (tape_in c file) k ≡ node_fields_of (drop (c.head + 16 * k) file)
  unfolding node_of node_at tape_in
  node_bytes =
      sym (there node_of nowhere 16 node_local no_node (omega arith) file c.head c.nodes k h)
      ∙ rw (le-leb 16 (length (drop (c.head + 16 * k) file)) (omega (arith, length-drop (c.head + 16 * k) file)))

  pub kind_bytes : (node_at (tape_in c file) k).kind.code ≡ get_or (drop (c.head + 16 * k) file) 0 0
  unfolding node_fields_of
  kind_bytes = ap (λ (n : Node). n.kind.code) node_bytes

  pub flags_bytes : (node_at (tape_in c file) k).flags.bits ≡ get_or (drop (c.head + 16 * k) file) 1 0
  unfolding node_fields_of
  flags_bytes = ap (λ (n : Node). n.flags.bits) node_bytes

  pub marker_bytes : (node_at (tape_in c file) k).marker ≡ le16 (drop 2 (drop (c.head + 16 * k) file))
  unfolding node_fields_of
  marker_bytes = ap (λ (n : Node). n.marker) node_bytes

  pub link_bytes : (node_at (tape_in c file) k).link ≡ le32 (drop 4 (drop (c.head + 16 * k) file))
  unfolding node_fields_of
  link_bytes = ap (λ (n : Node). n.link) node_bytes

  pub start_bytes : (node_at (tape_in c file) k).start ≡ le32 (drop 8 (drop (c.head + 16 * k) file))
  unfolding node_fields_of
  start_bytes = ap (λ (n : Node). n.start) node_bytes

  pub len_bytes : (node_at (tape_in c file) k).len ≡ le32 (drop 12 (drop (c.head + 16 * k) file))
  unfolding node_fields_of
  len_bytes = ap (λ (n : Node). n.len) node_bytes

-- a part that is short is
pub part_short : (s : Bytes) (a n : ℕ) {r : Bytes} → r ≡ part s a n → n < 2 ^ 32 → length r < 2 ^ 32
part_short s a n e h = omega (arith, ap length e, length-take n (drop a s))
