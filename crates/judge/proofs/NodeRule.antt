-- Refusal 5: each answer of the functions on a node, from the tests that led there.
use mathlib.Core.Path.{◌≡◌, refl, sym, ap}
use mathlib.Core.Bool.{Bool, true, false, cond, not, and-true}
use mathlib.Core.Logic.{◌↔◌}
use Prim.Native.Nat.{ℕ, ◌*◌, ◌≤◌, ◌<◌}
use native.Mathlib.Omega.{arith}
use lib.ListN.{length, drop}
use lib.Dec.{eqb, leb}
use borrow.Author.Tests.{eq-eqb, ne_eqb, lt-ltb, le-ltb, leb-true, leb-false, not-true, not-false}
use Rattle.parts.specs.Bytes.{Bytes, part}
use Rattle.chars.specs.Utf8.{is_boundary}
use Rattle.words.specs.Words.{words, nth_word}
use Rattle.words.specs.declared.Set.TheVariants.{Unicode}
use Rattle.words.specs.declared.Part.{Part}
use Rattle.words.proofs.Places.{nth_len}
use Rattle.tape.specs.File.{entry_of, records_of, element_of}
use Rattle.tape.specs.Name.{name_in_of}
use Rattle.tape.specs.declared.Node.{Node}
use Rattle.tape.specs.declared.Entry.{Entry}
use Rattle.tape.specs.Found.{Info}
use Rattle.std.specs.Prelude.{None, Some}
use Rattle.tape.proofs.Laws.{records_at, records_length}
use Rattle.layout.specs.declared.Writer.{Writer}
use Rattle.layout.specs.Layout.{entries_at, held_in, read_as, draft_of}
use Rattle.judge.specs.Tests.{info_of, good_span, good_label, good_marker, good_here}

-- ---- the label

-- a word that another precedes is there where there is more than one
by_count : (k m : ℕ) → (k ≡ 0 ↔ m ≤ 1) → not (eqb k 0) ≡ cond (leb m 1) false true
by_count k m (f, g) = go (leb m 1) refl
  where
    go : (b : Bool) → leb m 1 ≡ b → not (eqb k 0) ≡ cond b false true
    go true h = rw (eq-eqb k 0 (g (leb-true m 1 h)))
    go false h = rw (ne_eqb k 0 (λ e. omega (arith, f e, leb-false m 1 h)))

module _ (text : Bytes) (base : ℕ) {name : Bytes} (en : name ≡ name_in_of text) where
  module _ {b : Bool} (eb : b ≡ is_boundary name base) where
    -- a label that would be cut inside a character: a second word says that none is
    pub label_word : {second : Part} → base < length name → b ≡ false → second ≡ nth_word Unicode text 0 1 → not (eqb second.len 0) ≡ good_label text base
    unfolding good_label
    label_word l h e =
        rw (← en, ← eb, h, lt-ltb base (length name) l, and-true, e)
        (by_count (nth_word Unicode text 0 1).len (length (words Unicode text)) (nth_len Unicode text 1 0))

-- ---- what is known of a marker

module _ (s : Bytes) (count marker : ℕ) {m : ℕ} (em : m ≡ marker) where
  pub info_known : {r : Bytes} {e : Entry} → m < count → r ≡ drop (8 * m) s → e ≡ entry_of r → Some e ≡ info_of (records_of entry_of 8 count s) marker
  unfolding info_of
  info_known h er ee = rw (← em, records_length, lt-ltb m count h, records_at entry_of 8 count s m, ee, er)

  pub info_unknown : count ≤ m → None ≡ info_of (records_of entry_of 8 count s) marker
  unfolding info_of
  info_unknown h = rw (← em, records_length, le-ltb m count h)

pub element-unknown : {i : Info} → i ≡ None → 0 ≡ element_of i
unfolding element_of
element-unknown h = ap element_of (sym h)

-- ---- the node

module _ (w : Writer) (buf : Bytes) (n : Node) {source : Bytes} {t : Bool} (es : source ≡ part buf 52 w.source) (et : t ≡ good_span source n) where
  pub node_outside : not t ≡ true → false ≡ good_here (draft_of w buf).source (draft_of w buf).entries n
  unfolding good_here read_as held_in
  node_outside h = rw (← es, ← et, not-true t h)

  pub node-inside : {at : ℕ} {entries : Bytes} {known : Info} {r : Bool} → not t ≡ false → at ≡ entries_at w (length buf) → entries ≡ part buf at (8 * w.entries)
      → known ≡ info_of (records_of entry_of 8 w.entries entries) n.marker → r ≡ good_marker source n known
      → r ≡ good_here (draft_of w buf).source (draft_of w buf).entries n
  unfolding good_here read_as held_in
  node-inside h ea ee ek er = rw (← es, ← et, not-false t h, er, ek, ee, ea)
