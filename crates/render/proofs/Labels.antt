-- Words and names of a node's text as parts of the source.
use mathlib.Core.Path.{◌≡◌, refl, sym, ap, ◌∙◌}
use mathlib.Core.Logic.{◌↔◌}
use mathlib.Core.Bool.{Bool, true, false, cond}
use mathlib.Core.List.{List, [], ◌∷◌}
use Prim.Native.Nat.{ℕ, zero, suc, ◌+◌, ◌-◌, ◌≤◌, ◌<◌}
use native.Mathlib.Nat.{lt_of_not-le}
use native.Mathlib.Omega.{arith}
use lib.ListN.{length, get_or, take, drop, length-drop, length-take, drop_of_length-le}
use lib.Seq.{take-take, drop-drop, take-length}
use lib.Dec.{leb}
use borrow.Author.Tests.{eq-eqb, ne_eqb, leb-true, leb-false}
use Rattle.parts.specs.Bytes.{Bytes, part, begins}
use Rattle.parts.proofs.Laws.{begins-fits, drop-take, part-part}
use Rattle.words.specs.Words.{words, next_word, nth_word, bytes_of}
use Rattle.words.specs.declared.Set.{Set}
use Rattle.words.specs.declared.Set.TheVariants.{Unicode}
use Rattle.words.specs.declared.Part.{Part}
use Rattle.words.proofs.Places.{end_of, next_in, nth_bytes, nth_len}
use Rattle.tape.specs.File.{Tape, node_at, text_at_of, info_at, base_len}
use Rattle.tape.specs.Name.{strip, bare, name_len, name_in_of, marker_name, name_start}
use Rattle.tape.specs.declared.Node.{Node}
use Rattle.tape.proofs.Laws.{text_of}
use Rattle.tape.proofs.NameRule.{name_of}
use Rattle.render.specs.Label.{second_or, label_of, in_source, word_part_of, name_rest, label_part, IsLabel}

-- ---- words

-- the word that so many others precede ends within its text
pub nth_in : (set : Set) (s : Bytes) (n at : ℕ) → at ≤ length s → end_of (nth_word set s at n) ≤ length s
unfolding nth_word
nth_in set s zero at h = next_in set s at h
nth_in set s (suc n) at h = nth_in set s n (end_of (next_word set s at)) (next_in set s at h)

-- the word that is found starts within its text
pub word_within : (src : Bytes) (a l n : ℕ) {r : Bytes} {w : Part} → r ≡ part src a l → w ≡ nth_word Unicode r zero n → w.start ≤ l
word_within src a l n {r} er ew =
    omega (arith, ap (λ (p : Part). p.start) ew, nth_in Unicode r n 0 (omega arith), ap length er, length-take l (drop a src))

module _ (t : Tape) (k : ℕ) where
  pub source_bytes : (p : Part) → end_of p ≤ length (text_at_of t k) → bytes_of t.source (in_source t k p) ≡ bytes_of (text_at_of t k) p
  unfolding in_source text_at_of
  source_bytes p h = sym (part-part t.source (node_at t k).start (node_at t k).len p.start p.len h)

  -- the bytes of a word's part
  pub word_bytes : (n : ℕ) → bytes_of t.source (word_part_of t k n) ≡ get_or (words Unicode (text_at_of t k)) n []
  unfolding word_part_of
  word_bytes n =
      let s : Bytes = text_at_of t k in
      source_bytes (nth_word Unicode s 0 n) (nth_in Unicode s n 0 (omega arith)) ∙ nth_bytes Unicode s n 0

  pub word_missing : (n : ℕ) → ((word_part_of t k n).len ≡ 0) ↔ length (words Unicode (text_at_of t k)) ≤ n
  unfolding word_part_of in_source
  word_missing n = nth_len Unicode (text_at_of t k) n 0

  pub word_found : (n : ℕ) {m : Node} {src r : Bytes} {a l : ℕ} {w : Part} → m ≡ node_at t k → a ≡ m.start → src ≡ t.source → l ≡ m.len
      → r ≡ part src a l → w ≡ nth_word Unicode r zero n → ◌≡◌ {A = Part} (record { start = a + w.start; len = w.len }) (word_part_of t k n)
  unfolding word_part_of in_source
  word_found n em ea es el er ew =
      rw (← text_of t k (ap (λ (z : Node). z.start) em) ea es (ap (λ (z : Node). z.len) em) el er, ← ew, ea, em)

-- ---- the name

module _ (x : ℕ) (s : Bytes) {y : Bool} (ey : y ≡ begins (x ∷ []) s) where
  pub stripped_one : y ≡ true → 1 ≡ length s - length (strip x s)
  unfolding strip
  stripped_one h = rw (← ey, h) (omega (arith, length-drop 1 s, begins-fits (x ∷ []) s (sym ey ∙ h)))

  pub stripped_none : y ≡ false → 0 ≡ length s - length (strip x s)
  unfolding strip
  stripped_none h = rw (← ey, h) (omega arith)

strip-drop : (x : ℕ) (s : Bytes) → (strip x s ≡ drop (length s - length (strip x s)) s) × (length (strip x s) ≤ length s)
unfolding strip
strip-drop x s = go (begins (x ∷ []) s) refl
  where
    go : (y : Bool) → begins (x ∷ []) s ≡ y
        → (cond y (drop 1 s) s ≡ drop (length s - length (cond y (drop 1 s) s)) s) × (length (cond y (drop 1 s) s) ≤ length s)
    go true e =
        let one : length s - length (drop 1 s) ≡ 1 = omega (arith, length-drop 1 s, begins-fits (x ∷ []) s e) in
        (rw one, omega (arith, length-drop 1 s))
    go false e = let none : length s - length s ≡ 0 = omega arith in (rw none, omega arith)

-- the text behind `\` and `+`
bare-drop : (s : Bytes) → (bare s ≡ drop (name_start s) s) × (length (bare s) ≤ length s)
unfolding bare name_start
bare-drop s =
    let u : Bytes = strip 92 s in
    let (eu, lu) = strip-drop 92 s in
    let (ev, lv) = strip-drop 43 u in
    let n : (length s - length u) + (length u - length (strip 43 u)) ≡ length s - length (strip 43 u) = omega arith in
    (ev ∙ ap (drop (length u - length (strip 43 u))) eu ∙ drop-drop (length u - length (strip 43 u)) (length s - length u) s ∙ rw n, omega arith)

pub start_found : (s : Bytes) {a d : ℕ} {r : Bytes} → a ≡ length s - length (strip 92 s) → r ≡ drop a s → d ≡ length r - length (strip 43 r) → a + d ≡ name_start s
unfolding name_start bare
start_found s {a} {d} {r} ea er ed =
    let u : Bytes = strip 92 s in
    let (eu, lu) = strip-drop 92 s in
    let e : r ≡ u = er ∙ rw ea (sym eu) in
    let (ev, lv) = strip-drop 43 u in
    omega (arith, ed, ap length e, ap (λ (z : Bytes). length (strip 43 z)) e)

start_le : (s : Bytes) → name_start s ≤ length s
unfolding name_start
start_le s = omega arith

-- the name is the part of the text from its start on
name-part : (s : Bytes) → (name_in_of s ≡ part s (name_start s) (length (name_in_of s))) × (name_start s + length (name_in_of s) ≤ length s)
name-part s =
    let j : ℕ = name_start s in
    let m : ℕ = name_len (bare s) in
    let e : take m (drop j s) ≡ name_in_of s = rw (← (bare-drop s).0) (name_of s refl refl refl) in
    let l : length (name_in_of s) ≤ length (drop j s) = omega (arith, ap length e, length-take m (drop j s)) in
    let k : length (name_in_of s) ≤ m = omega (arith, ap length e, length-take m (drop j s)) in
    let f : take (length (name_in_of s)) (drop j s) ≡ name_in_of s = sym (take-take (length (name_in_of s)) m (drop j s) k) ∙ ap (take (length (name_in_of s))) e ∙ take-length (name_in_of s) in
    (sym f, omega (arith, length-drop j s, start_le s))

name-past : (s : Bytes) (base : ℕ) → part s (name_start s + base) (length (name_in_of s) - base) ≡ drop base (name_in_of s)
name-past s base =
    let n : ℕ = length (name_in_of s) in
    rw (← drop-drop base (name_start s) s)
    (sym (drop-take base n (drop (name_start s) s)) ∙ ap (drop base) (sym (name-part s).0))

module _ (t : Tape) (k : ℕ) where
  -- the bytes of the rest of the name
  pub rest_bytes : bytes_of t.source (name_rest t k) ≡ drop (base_len (info_at t k)) (marker_name t k)
  unfolding name_rest marker_name in_source
  rest_bytes = go (base_len (info_at t k))
    where
      go : (base : ℕ) → part t.source ((node_at t k).start + (name_start (text_at_of t k) + base)) (length (name_in_of (text_at_of t k)) - base) ≡ drop base (name_in_of (text_at_of t k))
      go base = by (leb base (length (name_in_of (text_at_of t k)))) refl
        where
          by : (y : Bool) → leb base (length (name_in_of (text_at_of t k))) ≡ y
              → part t.source ((node_at t k).start + (name_start (text_at_of t k) + base)) (length (name_in_of (text_at_of t k)) - base) ≡ drop base (name_in_of (text_at_of t k))
          by true e =
              source_bytes t k (record { start = name_start (text_at_of t k) + base; len = length (name_in_of (text_at_of t k)) - base })
              (omega (arith, (name-part (text_at_of t k)).1, leb-true base (length (name_in_of (text_at_of t k))) e))
              ∙ name-past (text_at_of t k) base
          by false e =
              let n : length (name_in_of (text_at_of t k)) - base ≡ 0 = omega (arith, leb-false base (length (name_in_of (text_at_of t k))) e) in
              rw n (sym (drop_of_length-le (name_in_of (text_at_of t k)) {i = base} (omega (arith, leb-false base (length (name_in_of (text_at_of t k))) e))))

  module _ {m : Node} {b : ℕ} {u v : Bytes} {d a : ℕ} (eb : b ≡ base_len (info_at t k)) (eu : u ≡ text_at_of t k) (ed : d ≡ name_start u)
      (em : m ≡ node_at t k) (ea : a ≡ m.start) (ev : v ≡ marker_name t k) where
    pub rest-found : {n : ℕ} → n ≡ length v - b → ◌≡◌ {A = Part} (record { start = a + (d + b); len = n }) (name_rest t k)
    unfolding name_rest in_source
    rest-found en = rw (en, ea, ed, eu, eb, ev, em)

-- ---- the label

second_none : (other : Bytes) (ws : List Bytes) → length ws ≤ 1 → second_or other ws ≡ other
unfolding second_or
second_none other [] h = refl
second_none other (w ∷ []) h = refl
second_none other (w ∷ v ∷ ws) h = absurd (omega arith)

second_some : (other : Bytes) (ws : List Bytes) → 1 < length ws → second_or other ws ≡ get_or ws 1 []
unfolding second_or
second_some other [] h = absurd (omega arith)
second_some other (w ∷ []) h = absurd (omega arith)
second_some other (w ∷ v ∷ ws) h = refl

module _ (t : Tape) (k : ℕ) {w : Part} (ew : w ≡ word_part_of t k 1) where
  len_of : w.len ≡ (word_part_of t k 1).len
  len_of = ap (λ (p : Part). p.len) ew

  pub label_rest : {r : Part} → w.len ≡ 0 → r ≡ name_rest t k → IsLabel t k r
  unfolding label_part label_of
  label_rest h er = record {
    place = rw (eq-eqb (word_part_of t k 1).len 0 (sym len_of ∙ h)) er;
    bytes = rw er (rest_bytes t k ∙ sym (second_none _ (words Unicode (text_at_of t k)) ((word_missing t k 1).0 (sym len_of ∙ h))));
  }

  pub label_word : (w.len ≡ 0 → ⊥) → IsLabel t k w
  unfolding label_part label_of
  label_word h = record {
    place = rw (ne_eqb (word_part_of t k 1).len 0 (λ z. h (len_of ∙ z))) ew;
    bytes = rw ew (word_bytes t k 1 ∙ sym (second_some _ (words Unicode (text_at_of t k)) (more (words Unicode (text_at_of t k)) refl)));
  }
    where
      more : (ws : List Bytes) → words Unicode (text_at_of t k) ≡ ws → 1 < length ws
      more ws e = lt_of_not-le (λ l. h (len_of ∙ (word_missing t k 1).1 (rw e l)))
