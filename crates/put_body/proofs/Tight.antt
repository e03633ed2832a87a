-- The first bytes of a text, tested by blocks that may reach behind them.
use mathlib.Core.Path.{◌≡◌, refl, sym, ap, ◌∙◌}
use mathlib.Core.Bool.{Bool, true, false, cond, not, ◌&&◌, ◌||◌, or-true, or-false, or_assoc, and-true, and-false}
use mathlib.Core.List.{[], ◌∷◌}
use Prim.Native.Nat.{ℕ, zero, suc, ◌+◌, ◌-◌, ◌≤◌, ◌<◌, min}
use native.Mathlib.Nat.{add-zero}
use native.Mathlib.Omega.{arith}
use lib.ListN.{length, get_or, take, drop, drop_of_length-le, length-take, get_or-eq_default}
use lib.Seq.{drop-drop, get_or-take, get_or-drop}
use lib.Dec.{eqb, ltb, leb}
use borrow.Author.Tests.{eq-eqb, ne_eqb, eqb-true, eqb-false, leb-true, leb-false, le-leb, lt-leb}
use Rattle.parts.specs.Bytes.{Bytes}
use Rattle.parts.proofs.Laws.{drop_at, drop-take}
use Rattle.put_body.specs.Body.{odd}
use Rattle.put_body.specs.Easy.{hard, any_hard, easy, tight, hard_front, hard_as_of}

-- ---- one byte

-- before nothing a space is hard, and any other byte as before another
hard-last : (x y : ℕ) → hard x y || eqb x 32 ≡ hard x 0
unfolding hard odd
hard-last x y = go (ltb x 32) (eqb x 126) (eqb x 32) (eqb x 47 || (eqb x 60 || (eqb x 62 || eqb x 38)))
  where
    go : (a z s r : Bool) → ((a || (z || (s && ltb y 33))) || r) || s ≡ (a || (z || (s && true))) || r
    go true z s r = refl
    go false true s r = refl
    go false false true r = or-true (ltb y 33 || r)
    go false false false r = or-false r

pub hard_as : (j n x y : ℕ) {t : Bool} → t ≡ hard x y → leb j n && (t || (eqb x 32 && eqb j n)) ≡ hard_as_of j n x y
unfolding hard_as_of
hard_as j n x y {t} e = ap (λ (z : Bool). leb j n && z) (go (eqb j n))
  where
    go : (z : Bool) → t || (eqb x 32 && z) ≡ hard x (cond z 0 y)
    go true = rw (e, and-true (eqb x 32)) (hard-last x y)
    go false = rw (and-false (eqb x 32), or-false t) e

-- ---- the first bytes

-- one of a text's bytes is hard where one of the first is, or one behind them
front_split : (k : ℕ) (t : Bytes) → hard_front k t || any_hard (drop k t) ≡ any_hard t
unfolding hard_front any_hard
front_split zero t = refl
front_split (suc k) [] = refl
front_split (suc k) (x ∷ t) =
    or_assoc (hard x (get_or t 0 0)) (hard_front k t) (any_hard (drop k t)) ∙ rw (front_split k t)

front_nil : (k : ℕ) → hard_front k [] ≡ false
unfolding hard_front
front_nil zero = refl
front_nil (suc k) = refl

front_all : (k : ℕ) (t : Bytes) → length t ≤ k → hard_front k t ≡ any_hard t
unfolding any_hard
front_all k t h = sym (or-false (hard_front k t)) ∙ sym (rw (drop_of_length-le t h)) ∙ front_split k t

pub block_short : (s : Bytes) (n : ℕ) {t : Bool} {r : Bytes} → length s < 17 → r ≡ take n s → t ≡ any_hard r → t ≡ hard_front 16 (take n s)
block_short s n h er et = et ∙ ap any_hard er ∙ sym (front_all 16 (take n s) (omega (arith, length-take n s)))

-- ---- a block

module _ (s : Bytes) (n i : ℕ) (l : 1 ≤ i) (h : i < 17) (e : 17 ≤ length s) where
  -- a byte of the block: its place says whether it is one of the first, and the last of them
  block_here : hard_front (17 - i) (drop (i - 1) (take n s)) ≡ hard_as_of i (min n 17) (get_or s (i - 1) 0) (get_or s i 0) || hard_front (16 - i) (drop i (take n s))
  unfolding hard_front hard_as_of
  block_here = go (leb i n) refl
    where
      t : Bytes
      t = take n s

      behind : (z : Bool) → eqb i n ≡ z → i ≤ n → get_or t i 0 ≡ cond z 0 (get_or s i 0)
      behind true q m = get_or-eq_default t 0 (omega (arith, eqb-true i n q, length-take n s))
      behind false q m = get_or-take n s i 0 (omega (arith, eqb-false i n q))

      last : (z : Bool) → eqb i n ≡ z → eqb i (min n 17) ≡ z
      last true q = eq-eqb i (min n 17) (omega (arith, eqb-true i n q))
      last false q = ne_eqb i (min n 17) (λ w. eqb-false i n q (omega arith))

      go : (z : Bool) → leb i n ≡ z → hard_front (17 - i) (drop (i - 1) t) ≡ (leb i (min n 17) && hard (get_or s (i - 1) 0) (cond (eqb i (min n 17)) 0 (get_or s i 0))) || hard_front (16 - i) (drop i t)
      go true q =
          let m : i ≤ n = leb-true i n q in
          let next : i - 1 + 1 ≡ i = omega arith in
          let count : 17 - i ≡ suc (16 - i) = omega arith in
          let here : drop (i - 1) t ≡ get_or t (i - 1) 0 ∷ drop i t = drop_at t (i - 1) (omega (arith, length-take n s)) ∙ rw next in
          rw (count, here, get_or-take n s (i - 1) 0 (omega arith), get_or-drop i t 0 0, add-zero i, behind (eqb i n) refl m, le-leb i (min n 17) (omega arith), last (eqb i n) refl)
      go false q =
          let m : n < i = leb-false i n q in
          let none : drop (i - 1) t ≡ [] = drop_of_length-le t {i = i - 1} (omega (arith, length-take n s)) in
          let past : drop i t ≡ [] = drop_of_length-le t {i = i} (omega (arith, length-take n s)) in
          rw (none, past, lt-leb i (min n 17) (omega arith), front_nil (17 - i), front_nil (16 - i))

  pub block-turn : (found : Bool) {t z : Bool} {k m : ℕ} → k ≡ i → m ≡ min n 17 → t ≡ hard_as_of k m (get_or s (i - 1) 0) (get_or s i 0)
      → found || hard_front (17 - i) (drop (i - 1) (take n s)) ≡ z → (found || t) || hard_front (17 - (i + 1)) (drop (i + 1 - 1) (take n s)) ≡ z
  block-turn found {t} ek em et inv =
      let back : i + 1 - 1 ≡ i = omega arith in
      let less : 17 - (i + 1) ≡ 16 - i = omega arith in
      rw (back, less) (or_assoc found t (hard_front (16 - i) (drop i (take n s))) ∙ rw (et, ek, em) (sym (ap (λ (b : Bool). found || b) block_here) ∙ inv))

pub block_end : (s : Bytes) (n i : ℕ) (found : Bool) {z : Bool} → 17 ≤ i → found || hard_front (17 - i) (drop (i - 1) (take n s)) ≡ z → found ≡ z
unfolding hard_front
block_end s n i found h inv = let none : 17 - i ≡ 0 = omega arith in sym (rw none (or-false found)) ∙ inv

-- ---- block by block

module _ (s : Bytes) (n i : ℕ) {r : Bytes} {t : Bool} (er : r ≡ drop i s) (et : t ≡ hard_front 16 (take (n - i) r)) where
  split : {z : Bool} → t ≡ z → z || any_hard (drop (i + 16) (take n s)) ≡ any_hard (drop i (take n s))
  split e =
      rw (← e, et, er, ← drop-take i n s, ← drop-drop 16 i (take n s)) (front_split 16 (drop i (take n s)))

  pub front_turn : {z : Bool} → t ≡ false → any_hard (drop i (take n s)) ≡ z → any_hard (drop (i + 16) (take n s)) ≡ z
  front_turn e inv = split e ∙ inv

  pub front_stop : {z : Bool} → t ≡ true → any_hard (drop i (take n s)) ≡ z → true ≡ z
  front_stop e inv = split e ∙ inv

  pub front_end : {z : Bool} → n - i ≤ 16 → t ≡ false → any_hard (drop i (take n s)) ≡ z → false ≡ z
  unfolding any_hard
  front_end h e inv =
      let none : drop (i + 16) (take n s) ≡ [] = drop_of_length-le (take n s) {i = i + 16} (omega (arith, length-take n s)) in
      sym (ap any_hard none) ∙ front_turn e inv

pub front_done : (s : Bytes) (n i : ℕ) {z : Bool} → n ≤ i → any_hard (drop i (take n s)) ≡ z → false ≡ z
unfolding any_hard
front_done s n i h inv = sym (ap any_hard (drop_of_length-le (take n s) {i = i} (omega (arith, length-take n s)))) ∙ inv

-- ---- a tight text

pub tight-empty : (s : Bytes) (n : ℕ) → length s ≡ 0 → false ≡ tight (take n s)
unfolding tight
tight-empty s n h = let none : length (take n s) ≡ 0 = omega (arith, length-take n s) in rw none

module _ (s : Bytes) {x : ℕ} {rest : Bytes} (ex : s ≡ x ∷ rest) where
  pub tight_space : (n : ℕ) → x ≡ 32 → false ≡ tight (take n s)
  unfolding tight easy
  tight_space zero e = refl
  tight_space (suc n) e = rw (ex, e) (sym (and-false (not (eqb (length (32 ∷ take n rest)) 0))))

  pub tight-none : (n : ℕ) → n ≤ 0 → ltb 0 n ≡ tight (take n s)
  unfolding tight
  tight-none zero h = refl
  tight-none (suc n) h = absurd (omega arith)

  pub tight_scan : (n : ℕ) {t : Bool} → 0 < n → (x ≡ 32 → ⊥) → t ≡ any_hard (take n s) → not t ≡ tight (take n s)
  unfolding tight easy
  tight_scan zero h e et = absurd (omega arith)
  tight_scan (suc n) h e et = rw (et, ex, ne_eqb x 32 e, ne_eqb (length (x ∷ take n rest)) 0 (λ z. omega arith))
