-- Blocks laid over a buffer: one inside another, and one behind which the buffer is as before.
use mathlib.Core.Path.{◌≡◌, refl, sym, ap, ◌∙◌}
use mathlib.Core.List.{◌++◌, append-nil, append_assoc}
use Prim.Native.Nat.{ℕ, ◌+◌, ◌-◌, ◌≤◌, ◌<◌}
use native.Mathlib.Omega.{arith}
use lib.ListN.{length, take, drop, drop_of_length-le, take-append-drop, length-append, length-drop, length-take}
use lib.Seq.{take-length, length-take-le, drop-drop, take-take, take-add, take-append-le, take-append-add, drop-append-add}
use Rattle.parts.specs.Bytes.{Bytes}
use Rattle.parts.specs.Over.{over}
use Rattle.parts.proofs.Over.{over_whole, over_none, over-length}

-- ---- a block

-- a block copied over another of its length
pub copied_all : (src dst : Bytes) {r : Bytes} → length dst ≤ length src → r ≡ take (length src) src ++ drop (length src) dst → r ≡ src
copied_all src dst h e = e ∙ rw (take-length src, drop_of_length-le dst h) (append-nil src)

-- a part of the buffer, given back with a block over all of it
pub mid-over : (buf : Bytes) (b : ℕ) (v : Bytes) → b + length v ≤ length buf → take b buf ++ (v ++ drop (length v) (drop b buf)) ≡ over buf b v
mid-over buf b v h = rw (drop-drop (length v) b buf) (sym (over_whole buf b v (omega arith)))

-- ---- one run over another

take_past : (p q : Bytes) (d n : ℕ) → length p ≡ d → take (d + n) (p ++ q) ≡ p ++ take n q
take_past p q d n e = rw (← e) (take-append-add p q n)

drop_past : (p q : Bytes) (d n m : ℕ) → length p ≡ d → d + n ≡ m → drop m (p ++ q) ≡ drop n q
drop_past p q d n m e em = rw (← em, ← e) (drop-append-add p q n)

module _ (buf : Bytes) (d n : ℕ) (f v : Bytes) (hn : n ≤ length f) (hv : length f ≤ n + length v) (hb : d + (n + length v) ≤ length buf) where
  abbrev first : Bytes
  first = take d buf ++ (f ++ drop (d + length f) buf)

  before : length (take d buf) ≡ d
  before = length-take-le d buf (omega arith)

  first-length : length first ≡ length buf
  first-length = simp (length-append, length-drop) (omega (arith, before))

  first_front : take (d + n) first ≡ take d buf ++ take n f
  first_front =
      take_past (take d buf) (f ++ drop (d + length f) buf) d n before
      ∙ ap (λ (z : Bytes). take d buf ++ z) (take-append-le n f (drop (d + length f) buf) hn)

  first_rest : drop (d + n + length v) first ≡ drop (d + (n + length v)) buf
  first_rest =
      let m : ℕ = n + length v in
      let same : d + length f + (m - length f) ≡ d + m = omega arith in
      drop_past (take d buf) (f ++ drop (d + length f) buf) d m (d + n + length v) before (omega arith)
      ∙ drop_past f (drop (d + length f) buf) (length f) (m - length f) m refl (omega arith)
      ∙ drop-drop (m - length f) (d + length f) buf ∙ rw same

  -- a run laid, and another from a place inside it on: what stood before that place, and the other
  pub over-over : over (over buf d f) (d + n) v ≡ over buf d (take n f ++ v)
  over-over =
      let long : length (take n f ++ v) ≡ n + length v = length-append (take n f) v ∙ rw (length-take-le n f hn) in
      let rest : Bytes = drop (d + (n + length v)) buf in
      let both : take (d + n) first ++ (v ++ drop (d + n + length v) first) ≡ (take d buf ++ take n f) ++ (v ++ rest) = rw (first_front, first_rest) in
      ap (λ (z : Bytes). over z (d + n) v) (over_whole buf d f (omega arith))
      ∙ over_whole first (d + n) v (omega (arith, first-length))
      ∙ both
      ∙ append_assoc (take d buf) (take n f) (v ++ rest)
      ∙ ap (λ (z : Bytes). take d buf ++ z) (sym (append_assoc (take n f) v rest))
      ∙ sym (over_whole buf d (take n f ++ v) (omega (arith, long)) ∙ rw long)

-- what stood behind a run, laid again
pub over_saved : (buf : Bytes) (d k : ℕ) (x : Bytes) → d + (length x + k) ≤ length buf → over buf d (x ++ take k (drop (d + length x) buf)) ≡ over buf d x
over_saved buf d k x h =
    let t : Bytes = take k (drop (d + length x) buf) in
    let here : length t ≡ k = length-take-le k (drop (d + length x) buf) (omega (arith, length-drop (d + length x) buf)) in
    let long : d + length (x ++ t) ≡ d + length x + k = omega (arith, length-append x t, here) in
    over_whole buf d (x ++ t) (omega (arith, long))
    ∙ ap (λ (z : Bytes). take d buf ++ z)
    (append_assoc x t (drop (d + length (x ++ t)) buf)
    ∙ ap (λ (z : Bytes). x ++ z) (rw (long, ← drop-drop k (d + length x) buf) (take-append-drop k (drop (d + length x) buf))))
    ∙ sym (over_whole buf d x (omega arith))

pub over-same : (buf : Bytes) (d : ℕ) (s : Bytes) {r last : Bytes} → r ≡ s → last ≡ over buf d r → last ≡ over buf d s
over-same buf d s er e = e ∙ rw er

-- ---- through a local block

-- a buffer whose part up to e was given back
abbrev mid : Bytes → ℕ → ℕ → Bytes → Bytes
mid buf b e r = take b buf ++ (r ++ drop (e - b) (drop b buf))

-- what a block holds that another was copied into
abbrev copy : Bytes → Bytes → Bytes
copy src dst = take (length src) src ++ drop (length src) dst

-- a block copied to a part of the buffer
placed : (buf : Bytes) (b e : ℕ) (v : Bytes) {r : Bytes} → e ≡ b + length v → e ≤ length buf → r ≡ copy v (take (e - b) (drop b buf)) → mid buf b e r ≡ over buf b v
placed buf b e v {r} ee h er =
    let all : r ≡ v = copied_all v (take (e - b) (drop b buf)) (omega (arith, length-take (e - b) (drop b buf))) er in
    let count : e - b ≡ length v = omega arith in
    rw (all, count) (mid-over buf b v (omega arith))

module _ (buf s : Bytes) (d n : ℕ) (hn : n ≤ 16) (hs : 16 ≤ length s) (hd : d < length buf) (hb : 32 ≤ length buf - d) where
  -- a block laid, and what stood behind its first bytes laid again
  pub block-laid : (z y : Bytes) {fresh saved one two : Bytes} → length z ≤ 16 → length y ≤ 16
      → fresh ≡ copy (take 16 s) z
      → saved ≡ copy (take (d + n + 16 - (d + n)) (drop (d + n) buf)) y
      → one ≡ copy fresh (take (d + 16 - d) (drop d buf))
      → two ≡ copy saved (take (d + n + 16 - (d + n)) (drop (d + n) (mid buf d (d + 16) one)))
      → mid (mid buf d (d + 16) one) (d + n) (d + n + 16) two ≡ over buf d (take n s)
  block-laid z y {fresh} {saved} {one} hz hy ef es e1 e2 =
      let count : d + n + 16 - (d + n) ≡ 16 = omega arith in
      let behind : Bytes = take 16 (drop (d + n) buf) in
      let long : length (take 16 s) ≡ 16 = length-take-le 16 s hs in
      let back : length behind ≡ 16 = length-take-le 16 (drop (d + n) buf) (omega (arith, length-drop (d + n) buf)) in
      let is_fresh : fresh ≡ take 16 s = copied_all (take 16 s) z (omega arith) ef in
      let is_saved : saved ≡ behind = copied_all behind y (omega arith) (es ∙ rw count) in
      let held : length saved ≡ 16 = ap length is_saved ∙ back in
      let now : mid buf d (d + 16) one ≡ over buf d (take 16 s) = placed buf d (d + 16) fresh (omega (arith, ap length is_fresh)) (omega arith) e1 ∙ rw is_fresh in
      let room : length (mid buf d (d + 16) one) ≡ length buf = ap length now ∙ over-length buf d (take 16 s) in
      let first : length (take n s) ≡ n = length-take-le n s (omega arith) in
      placed (mid buf d (d + 16) one) (d + n) (d + n + 16) saved (omega arith) (omega arith) e2
      ∙ ap (λ (w : Bytes). over w (d + n) saved) now
      ∙ over-over buf d n (take 16 s) saved (omega arith) (omega arith) (omega arith)
      ∙ rw (is_saved, take-take n 16 s hn)
      (ap (λ (k : ℕ). over buf d (take n s ++ take 16 (drop (d + k) buf))) (sym first) ∙ over_saved buf d 16 (take n s) (omega arith))

-- ---- block by block

-- a buffer with the first bytes of a run over it
pub record LaidTo (buf : Bytes) (d : ℕ) (run : Bytes) (i : ℕ) (out : Bytes) : Type 0 where
  pub room : length out ≡ length buf
  pub is : out ≡ over buf d (take i run)

pub long_start : (buf : Bytes) (d : ℕ) (run : Bytes) → LaidTo buf d run 0 buf
long_start buf d run = record { room = refl; is = sym (over_none buf d) }

-- and a block from a place among them on
pub long_turn : (buf run : Bytes) (d i q e : ℕ) (z : Bytes) {out fresh last : Bytes} → q ≤ i → i ≤ e → e ≡ q + 16 → e ≤ length run → length run ≤ length buf - d → d < length buf
    → length z ≤ 16 → LaidTo buf d run i out
    → fresh ≡ copy (take (e - q) (drop q run)) z
    → last ≡ copy fresh (take (d + q + 16 - (d + q)) (drop (d + q) out))
    → LaidTo buf d run e (mid out (d + q) (d + q + 16) last)
long_turn buf run d i q e z {out} {fresh} {last} hq hi he hr hb hd hz l ef el = record { room = ap length new ∙ over-length buf d (take e run); is = new }
  where
    new : mid out (d + q) (d + q + 16) last ≡ over buf d (take e run)
    new =
        let count : e - q ≡ 16 = omega arith in
        let v : Bytes = take 16 (drop q run) in
        let long : length v ≡ 16 = length-take-le 16 (drop q run) (omega (arith, length-drop q run)) in
        let front : length (take i run) ≡ i = length-take-le i run (omega arith) in
        let is_fresh : fresh ≡ v = copied_all v z (omega arith) (ef ∙ rw count) in
        let held : length fresh ≡ 16 = ap length is_fresh ∙ long in
        let whole : take q (take i run) ++ v ≡ take e run = rw (take-take q i run hq, he) (sym (take-add q 16 run)) in
        placed out (d + q) (d + q + 16) fresh (omega arith) (omega (arith, l.room)) el
        ∙ rw (is_fresh, l.is, ← whole) (over-over buf d q (take i run) v (omega arith) (omega arith) (omega arith))

-- the last block reaches the run's end
pub long_end : (buf run : Bytes) (d i : ℕ) (z : Bytes) {out fresh last : Bytes} → i ≤ length run → length run - i < 16 → 16 ≤ length run → length run ≤ length buf - d → d < length buf
    → length z ≤ 16 → LaidTo buf d run i out
    → fresh ≡ copy (take (length run - (length run - 16)) (drop (length run - 16) run)) z
    → last ≡ copy fresh (take (d + (length run - 16) + 16 - (d + (length run - 16))) (drop (d + (length run - 16)) out))
    → mid out (d + (length run - 16)) (d + (length run - 16) + 16) last ≡ over buf d run
long_end buf run d i z hi hl hn hb hd hz l ef el =
    (long_turn buf run d i (length run - 16) (length run) z (omega arith) hi (omega arith) (omega arith) hb hd hz l ef el).is ∙ rw (take-length run)
