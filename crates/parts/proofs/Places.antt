-- Laws of the very parts of a lent text.
use mathlib.Core.Path.{◌≡◌, refl, sym, ap, ◌∙◌}
use mathlib.Core.Bool.{Bool, true, false}
use mathlib.Core.List.{[]}
use Prim.Native.Nat.{ℕ, ◌+◌, ◌-◌, ◌≤◌, min}
use native.Mathlib.Nat.{min-eq_left}
use native.Mathlib.Omega.{arith}
use lib.ListN.{length, take, drop, length-take, length-drop, drop_of_length-le}
use lib.Seq.{take_all, length-take-le, take-nil}
use lib.Dec.{leb}
use borrow.Author.Tests.{leb-true, leb-false}
use denote.Ref.{Bor}
use Rattle.parts.specs.Bytes.{Bytes, part}
use Rattle.parts.specs.Place.{VeryPart, very}
use Rattle.parts.proofs.Laws.{drop-part, drop_past, part-part}

-- a front part is as long as itself
take_own : (m : ℕ) (x : Bytes) → take m x ≡ take (length (take m x)) x
take_own m x = go (leb m (length x)) refl
  where
    go : (t : Bool) → leb m (length x) ≡ t → take m x ≡ take (length (take m x)) x
    go true e = sym (ap (λ (k : ℕ). take k x) (length-take-le m x (leb-true m (length x) e)))
    go false e =
        let all : take m x ≡ x = take_all m x (omega (arith, leb-false m (length x) e)) in
        all ∙ sym (take_all (length (take m x)) x (omega (arith, ap length all)))

module _ (w : Bytes) (a n b m : ℕ) where
  abbrev r : Bytes
  r = part w a n

  abbrev q : Bytes
  q = part r b m

  -- the bytes of a part of a part
  bytes_of : q ≡ part w (a + min b (length r)) (length q)
  bytes_of = go (leb b (length r)) refl
    where
      go : (t : Bool) → leb b (length r) ≡ t → q ≡ part w (a + min b (length r)) (length q)
      go true e =
          let h : b ≤ length r = leb-true b (length r) e in
          let l : b + length q ≤ length r = omega (arith, length-take m (drop b r), length-drop b r) in
          rw (min-eq_left h) (take_own m (drop b r) ∙ part-part w a n b (length q) l)
      go false e =
          let none : q ≡ [] = ap (take m) (drop_of_length-le r {i = b} (omega (arith, leb-false b (length r) e))) ∙ take-nil m in
          none ∙ sym (ap (λ (k : ℕ). part w (a + min b (length r)) k) (ap length none))

  -- where a part of a part starts
  byte_of : (o : ℕ) → o + min a (length w) + min b (length r) ≡ o + min (a + min b (length r)) (length w)
  byte_of o = omega (arith, length-take n (drop a w), length-drop a w)

-- a part of a part is a part of the whole
pub very_part : {w r q : Bor Bytes} {a n b m : ℕ} → VeryPart w r a n → VeryPart r q b m
    → VeryPart w q (a + min b (length r.now)) (length q.now)
very_part {w} {r} {q} {a} {n} {b} {m} (very e k o) (very e' k' o') =
    very
    (e' ∙ rw (e', e) (bytes_of w.now a n b m))
    (k' ∙ k)
    (o' ∙ rw (e, o) (byte_of w.now a n b m w.ref_ptr.1))

pub very_at : {w r : Bor Bytes} {a n a' n' : ℕ} → a ≡ a' → n ≡ n' → VeryPart w r a n → VeryPart w r a' n'
very_at ea en v = rw (← ea, ← en) v

pub very_within : {w r q : Bor Bytes} {a n b m a' n' : ℕ} → VeryPart w r a n → VeryPart r q b m → a + min b (length r.now) ≡ a' → length q.now ≡ n'
    → VeryPart w q a' n'
very_within v u ea en = very_at ea en (very_part v u)

-- a text is a part of itself
pub very_self : (w : Bor Bytes) {a n : ℕ} → 0 ≡ a → length w.now ≡ n → VeryPart w w a n
very_self w ea en = very_at ea en (very (sym (take_all (length w.now) w.now (omega arith))) refl (omega arith))

-- behind the end nothing is left
pub rest-none : (s : Bytes) {a : ℕ} → length s ≤ a → take (length s - length s) (drop (length s) s) ≡ part s a (length s - a)
rest-none s {a} h = drop_past s a h ∙ sym (drop-part s a)

-- a front of what is left, and all of it where that is no longer
pub very_front : {w r q : Bor Bytes} {a l n : ℕ} → VeryPart w r a l → r.now ≡ drop a w.now → q.now ≡ take n r.now → q.ref_ptr.0 ≡ r.ref_ptr.0
    → q.ref_ptr.1 ≡ r.ref_ptr.1 → VeryPart w q a n
very_front {n = n} (very e k o) er eq k' o' = very (eq ∙ ap (take n) er) (k' ∙ k) (o' ∙ o)

pub very_whole : {w r : Bor Bytes} {a l n : ℕ} → VeryPart w r a l → r.now ≡ drop a w.now → length r.now ≤ n → VeryPart w r a n
very_whole {r = r} {n = n} (very e k o) er h = very (sym (take_all n r.now h) ∙ ap (take n) er) k o
