-- Where a broken name stands: a part that is tested, and the parts of book codes, labels and marker names.
use mathlib.Core.Path.{◌≡◌, refl, sym, ap, ◌∙◌, subst}
use mathlib.Core.Bool.{Bool, true, false, not, cond, and-false}
use mathlib.Core.List.{[]}
use Prim.Native.Nat.{ℕ, ◌+◌, ◌-◌, ◌≤◌, ◌<◌}
use native.Mathlib.Omega.{arith}
use lib.ListN.{length, take, drop, length-take, length-drop}
use lib.Seq.{take-take, take-length}
use lib.Dec.{eqb}
use borrow.Author.Tests.{eq-eqb, ne_eqb, le-ltb, not-true, not-false}
use denote.Ref.{Bor}
use Rattle.parts.specs.Bytes.{Bytes, part}
use Rattle.parts.specs.Place.{VeryPart, very}
use Rattle.words.specs.Words.{bytes_of, nth_word}
use Rattle.words.specs.declared.Set.TheVariants.{Unicode}
use Rattle.words.specs.declared.Part.{Part}
use Rattle.words.proofs.Places.{end_of}
use Rattle.tape.specs.File.{Tape, node_at, kind_at, text_at_of, info_at, base_len, bears_marker}
use Rattle.tape.specs.Name.{bare, name_len, name_in_of, name_start, marker_name, marker_len}
use Rattle.tape.specs.declared.kinds.Kind.{Kind}
use Rattle.tape.specs.Found.{Step}
use Rattle.std.specs.Prelude.{None, Some}
use Rattle.render.specs.Shape.{is_verse_of}
use Rattle.render.specs.Label.{label_of, in_source, word_part_of, name_rest, label_part, IsLabel}
use Rattle.render.specs.Children.{first_text_of}
use Rattle.render.specs.Note.{book_code_of, word_at, code_part, IsCode}
use Rattle.render.proofs.Labels.{nth_in, source_bytes, rest_bytes}
use Rattle.attrs.specs.Walk.{Spot}
use Rattle.roles.specs.Roles.{role_in}
use Rattle.roles.specs.declared.Role.{Role}
use Rattle.events.specs.Walk.{role_of}
use Rattle.accepts.specs.Proviso.{has_special, What, code, label, marker, name_where, is_id, has_code}
use Rattle.names.specs.declared.What.{What as Said}
use Rattle.names.specs.declared.What.TheVariants.{Code, Label, Marker}
use Rattle.names.specs.declared.Hit.{Hit}
use Rattle.std.specs.Prelude.{Option}
use Rattle.names.specs.Finding.{what_of, marker_part, Placed}
use Rattle.names.specs.Hits.{Tested, free, broken, Starts, Hits, nowhere}
use Rattle.names.proofs.Specials.{some-length}
use Rattle.names.proofs.Rows.{alone}

-- ---- a part that is tested

module _ (source : Bytes) (w : Said) (p : Part) {s : Bytes} {h : Bool} (es : s ≡ bytes_of source p) (eh : h ≡ has_special s) where
  pub test_free : not h ≡ true → Tested source w (bytes_of source p) None
  test_free e = free (ap has_special (sym es) ∙ sym eh ∙ not-true h e)

  pub test_broken : not h ≡ false → Tested source w (bytes_of source p) (Some (record { what = w; place = record { start = p.start; len = length s } }))
  test_broken e =
      let b : has_special s ≡ true = sym eh ∙ not-false h e in
      let n : 0 < length s = some-length s b in
      let l : length s ≡ length (part source p.start p.len) = ap length es in
      broken {p = record { start = p.start; len = length s }} (ap has_special (sym es) ∙ b)
      (record {
        inside = omega (arith, l, length-take p.len (drop p.start source), length-drop p.start source);
        here =
            sym (take-take (length s) p.len (drop p.start source) (omega (arith, l, length-take p.len (drop p.start source))))
            ∙ ap (take (length s)) (sym es)
            ∙ take-length s
            ∙ es;
      })

-- ---- parts of the source

parts_equal : {p q : Part} → p.start ≡ q.start → p.len ≡ q.len → p ≡ q
parts_equal {p} {q} a l = ap (λ (x : ℕ). record { start = x; len = p.len }) a ∙ ap (λ (x : ℕ). record { start = q.start; len = x }) l

part-len : (s : Bytes) (p : Part) → end_of p ≤ length s → length (bytes_of s p) ≡ p.len
part-len s p h = omega (arith, length-take p.len (drop p.start s), length-drop p.start s)

pub spot_len : {s w : Bytes} {p : Part} → Spot s p w → length w ≡ p.len
spot_len {s} {w} {p} sp = sym (ap length sp.here) ∙ part-len s p sp.inside

-- a part of the source that is as long as it says
pub record Full (t : Tape) (p : Part) : Type 0 where
  pub len : length (bytes_of t.source p) ≡ p.len

-- what is found at a full part is that part
pub spot_part : (t : Tape) {p q : Part} → Full t p → q.start ≡ p.start → Spot t.source q (bytes_of t.source p) → q ≡ p
spot_part t f e sp = parts_equal e (sym (spot_len sp) ∙ f.len)

-- ---- words

word_full : (t : Tape) (k n : ℕ) → Full t (word_part_of t k n)
unfolding word_part_of in_source
word_full t k n =
    let s : Bytes = text_at_of t k in
    let p : Part = nth_word Unicode s 0 n in
    let h : end_of p ≤ length s = nth_in Unicode s n 0 (omega arith) in
    record { len = ap length (source_bytes t k p h) ∙ part-len s p h }

step_full : (t : Tape) (s : Step) → Full t (word_at t s)
unfolding word_at
step_full t None = record { len = refl }
step_full t (Some c) = word_full t c.at 0

pub code_full : (t : Tape) (k : ℕ) → Full t (code_part t k)
unfolding code_part
code_full t k = step_full t (first_text_of t k)

-- ---- names

rest_full : (t : Tape) (k : ℕ) → Full t (name_rest t k)
unfolding name_rest in_source
rest_full t k = record { len = ap length (rest_bytes t k) ∙ length-drop (base_len (info_at t k)) (marker_name t k) }

pub label_full : (t : Tape) (k : ℕ) → Full t (label_part t k)
unfolding label_part
label_full t k = go (eqb (word_part_of t k 1).len 0)
  where
    go : (y : Bool) → Full t (cond y (name_rest t k) (word_part_of t k 1))
    go true = rest_full t k
    go false = word_full t k 1

-- a tape without entries: its names go past no base
abbrev nameless : Tape → Tape
nameless t = record { nodes = t.nodes; entries = []; names = t.names; source = t.source }

no_base : (t : Tape) (k : ℕ) → base_len (info_at (nameless t) k) ≡ 0
unfolding info_at base_len
no_base t k = rw (le-ltb (node_at (nameless t) k).marker 0 (omega arith), and-false)

pub marker_bytes : (t : Tape) (k : ℕ) → bytes_of t.source (marker_part t k) ≡ marker_name t k
unfolding marker_part name_rest in_source marker_len marker_name name_len name_in_of text_at_of node_at
marker_bytes t k =
    let base : ℕ = base_len (info_at (nameless t) k) in
    let e : base ≡ 0 = no_base t k in
    let p : name_rest (nameless t) k ≡ marker_part t k = parts_equal (omega arith) (omega arith) in
    ap (bytes_of t.source) (sym p) ∙ rest_bytes (nameless t) k ∙ ap (λ (n : ℕ). drop n (marker_name t k)) e

pub marker_full : (t : Tape) (k : ℕ) → Full t (marker_part t k)
unfolding marker_part in_source marker_len marker_name name_len name_in_of
marker_full t k = record { len = ap length (marker_bytes t k) }

-- the marker name as the code finds it
pub very_le : (s : Bor Bytes) {r : Bor Bytes} {a n : ℕ} → VeryPart s r a n → length r.now ≤ length s.now
very_le s {r} {a} {n} (very e f g) = omega (arith, ap length e, length-take n (drop a s.now), length-drop a s.now)

pub marker-found : (t : Tape) (k : ℕ) {x y z : Bytes} {m a : ℕ} → x ≡ text_at_of t k → y ≡ bare x → z ≡ marker_name t k → m ≡ (node_at t k).start → a ≡ m
    → ◌≡◌ {A = Part} (record { start = a + (length x - length y); len = length z }) (marker_part t k)
unfolding marker_part in_source name_start marker_len marker_name name_len name_in_of
marker-found t k ex ey ez em ea = rw (ea, em, ey, ex, ez)

-- ---- one name of a node, where it has it

name-none : (t : Tape) (k : ℕ) (w : What) (bytes : Bytes) {has : Bool} → has ≡ false → Hits t k (name_where has w bytes) None
unfolding name_where
name-none t k w bytes e = rw e (nowhere tt)

module _ (t : Tape) (k : ℕ) (n : What) (bytes : Bytes) (p : Part) (here : bytes_of t.source p ≡ bytes) (f : Full t p) (pl : Placed t k n p) where
  name_tested : {has : Bool} → has ≡ true → {w : Said} → what_of w ≡ n → {s : Bytes} → s ≡ t.source → {r : Option Hit} → Tested s w (bytes_of s p) r → Starts p r
      → Hits t k (name_where has n bytes) r
  unfolding name_where
  name_tested e {w} ew {s} es {r} ts st =
      let found : Tested t.source w bytes r = rw here at (rw es at ts) in
      rw e (alone t k (record { what = n; bytes = bytes }) ew found placed)
    where
      placed : (q : Part) → r ≡ Some (record { what = w; place = q }) → Spot t.source q bytes → Placed t k n q
      placed q er sp = subst (Placed t k n) (sym (spot_part t f (subst (Starts p) er st) (rw here sp))) pl

module _ (t : Tape) (k : ℕ) {has : Bool} (eh : has ≡ has_code t k) where
  pub code_none : not has ≡ true → Hits t k (name_where (has_code t k) code (book_code_of t k)) None
  code_none e = name-none t k code (book_code_of t k) (sym eh ∙ not-true has e)

  pub code_tested : not has ≡ false → {p : Part} → IsCode t k p → {s : Bytes} → s ≡ t.source → {r : Option Hit} → Tested s Code (bytes_of s p) r → Starts p r
      → Hits t k (name_where (has_code t k) code (book_code_of t k)) r
  unfolding what_of
  code_tested e {p} i es ts st =
      name_tested t k code (book_code_of t k) p i.bytes (subst (Full t) (sym i.place) (code_full t k)) i.place (sym eh ∙ not-false has e) refl es ts st

module _ (t : Tape) (k : ℕ) {z : Kind} (ez : z.code ≡ kind_at t k) where
  pub label_none : (z.code ≡ 7 → ⊥) → Hits t k (name_where (is_verse_of t k) label (label_of t k)) None
  label_none e = name-none t k label (label_of t k) (ne_eqb (kind_at t k) 7 (λ x. e (ez ∙ x)))

  pub label_tested : z.code ≡ 7 → {p : Part} → IsLabel t k p → {s : Bytes} → s ≡ t.source → {r : Option Hit} → Tested s Label (bytes_of s p) r → Starts p r
      → Hits t k (name_where (is_verse_of t k) label (label_of t k)) r
  unfolding what_of
  label_tested e {p} i es ts st =
      name_tested t k label (label_of t k) p i.bytes (subst (Full t) (sym i.place) (label_full t k)) i.place (eq-eqb (kind_at t k) 7 (sym ez ∙ e)) refl es ts st

  module _ {has : Bool} (eh : has ≡ bears_marker z.code) where
    bears : bears_marker (kind_at t k) ≡ has
    bears = sym (eh ∙ ap bears_marker ez)

    pub marker-none : not has ≡ true → Hits t k (name_where (bears_marker (kind_at t k)) marker (marker_name t k)) None
    marker-none e = name-none t k marker (marker_name t k) (bears ∙ not-true has e)

    pub marker_tested : not has ≡ false → {p : Part} → p ≡ marker_part t k → {s : Bytes} → s ≡ t.source → {r : Option Hit} → Tested s Marker (bytes_of s p) r → Starts p r
        → Hits t k (name_where (bears_marker (kind_at t k)) marker (marker_name t k)) r
    unfolding what_of
    marker_tested e {p} i es ts st =
        name_tested t k marker (marker_name t k) p (ap (bytes_of t.source) i ∙ marker_bytes t k) (subst (Full t) (sym i) (marker_full t k)) i
        (bears ∙ not-false has e) refl es ts st

  pub open_id : z.code ≡ 3 → (o : Role) → role_in o ≡ role_of t k → {r : Bool} → r ≡ is_id (role_in o) → r ≡ has_code t k
  unfolding has_code
  open_id e o eo er = rw (eq-eqb (kind_at t k) 3 (sym ez ∙ e), ← eo) er
