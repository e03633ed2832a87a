-- Laws of parts, of words at the front and of first places.
use mathlib.Core.Path.{◌≡◌, refl, sym, ap, ◌∙◌}
use mathlib.Core.Bool.{Bool, true, false, ◌&&◌, and-false, ◌||◌}
use mathlib.Core.List.{[], ◌∷◌, ◌++◌}
use Prim.Native.Nat.{ℕ, zero, suc, ◌+◌, ◌-◌, ◌≤◌, ◌<◌}
use native.Mathlib.Omega.{arith}
use native.Mathlib.Numerals.{add-one}
use lib.ListN.{length, get_or, take, drop, drop_of_length-le, length-drop, length-take}
use lib.Seq.{drop-cons, take_all, drop-drop, take-nil, take-take}
use lib.Dec.{eqb}
use borrow.Author.Tests.{eq-eqb, ne_eqb, eqb-true, eqb-false}
use Rattle.std.specs.List.{list_all, zip}
use Rattle.std.specs.Cmp.Lexicographic.{pointwise}
use Rattle.parts.specs.Bytes.{Bytes, same, begins, first_at, find, part}

-- ---- parts

pub drop-part : (s : Bytes) (i : ℕ) → take (length s - i) (drop i s) ≡ drop i s
drop-part s i = take_all (length s - i) (drop i s) (omega (arith, length-drop i s))

-- past the end nothing is left
pub drop_past : (s : Bytes) (i : ℕ) → length s ≤ i → take (length s - length s) (drop (length s) s) ≡ drop i s
drop_past s i h = drop-part s (length s) ∙ drop_of_length-le s {i = length s} (omega arith) ∙ sym (drop_of_length-le s h)

-- the text from a place within it: the byte there, and what follows
pub drop_at : (s : Bytes) (i : ℕ) → i < length s → drop i s ≡ get_or s i 0 ∷ drop (i + 1) s
drop_at s i h = rw add-one (drop-cons s i 0 h)

-- ---- parts of parts

pub drop-take : (i n : ℕ) (s : Bytes) → drop i (take n s) ≡ take (n - i) (drop i s)
drop-take zero n s = let e : n - 0 ≡ n = omega arith in rw e
drop-take (suc i) zero s = let e : 0 - suc i ≡ 0 = omega arith in rw e
drop-take (suc i) (suc n) [] = sym (take-nil (suc n - suc i))
drop-take (suc i) (suc n) (x ∷ s) = let e : suc n - suc i ≡ n - i = omega arith in rw e (drop-take i n s)

-- what follows within a part
pub part-past : (s : Bytes) (a n i : ℕ) → drop i (part s a n) ≡ part s (a + i) (n - i)
part-past s a n i = drop-take i n (drop a s) ∙ ap (take (n - i)) (drop-drop i a s)

-- a part of what stands in front
pub part_front : (s : Bytes) (n c l : ℕ) → c + l ≤ length (take n s) → part (take n s) c l ≡ part s c l
part_front s n c l h = rw (drop-take c n s) (take-take l (n - c) (drop c s) (omega (arith, length-take n s)))

-- a part of a part is a part of the whole
pub part-part : (s : Bytes) (a n c l : ℕ) → c + l ≤ length (part s a n) → part (part s a n) c l ≡ part s (a + c) l
part-part s a n c l h = part_front (drop a s) n c l h ∙ ap (take l) (drop-drop c a s)

-- ---- both of two tests

pub and-true : (a z : Bool) → a && z ≡ true → (a ≡ true) × (z ≡ true)
and-true true z e = (refl, e)
and-true false z e = absurd (let no_way : ◌≡◌ {A = ℕ} 0 1 = cc in omega arith)

pub or_both : (a z : Bool) → a || z ≡ false → (a ≡ false) × (z ≡ false)
or_both true z e = absurd (let no_way : ◌≡◌ {A = ℕ} 0 1 = cc in omega arith)
or_both false z e = (refl, e)

-- ---- a word at the front

pub begins_short : (w s : Bytes) → length s < length w → begins w s ≡ false
unfolding begins
begins_short [] s h = absurd (omega arith)
begins_short (x ∷ w) [] h = refl
begins_short (x ∷ w) (y ∷ s) h = rw (begins_short w s (omega arith)) (and-false (eqb x y))

pub begins-zip : (w s : Bytes) → length w ≤ length s → list_all (λ (p : ℕ × ℕ). eqb p.0 p.1) (zip w s) ≡ begins w s
unfolding begins
begins-zip [] s h = refl
begins-zip (x ∷ w) [] h = absurd (omega arith)
begins-zip (x ∷ w) (y ∷ s) h = ap (λ (t : Bool). eqb x y && t) (begins-zip w s (omega arith))

pub begins-fits : (w s : Bytes) → begins w s ≡ true → length w ≤ length s
unfolding begins
begins-fits [] s e = omega arith
begins-fits (x ∷ w) [] e = absurd (let no_way : ◌≡◌ {A = ℕ} 0 1 = cc in omega arith)
begins-fits (x ∷ w) (y ∷ s) e = omega (arith, begins-fits w s (and-true (eqb x y) (begins w s) e).1)

-- a text that begins with a word is that word and what follows it
pub begins-split : (w s : Bytes) → begins w s ≡ true → s ≡ w ++ drop (length w) s
unfolding begins
begins-split [] s e = refl
begins-split (x ∷ w) [] e = absurd (let no_way : ◌≡◌ {A = ℕ} 0 1 = cc in omega arith)
begins-split (x ∷ w) (y ∷ s) e =
    let both = and-true (eqb x y) (begins w s) e in
    let eq : x ≡ y = eqb-true x y both.0 in
    rw (eq) (ap (λ (z : Bytes). y ∷ z) (begins-split w s both.1))

-- ---- equal texts

pub same-pointwise : (a z : Bytes) → pointwise eqb a z ≡ same a z
unfolding same
same-pointwise [] [] = refl
same-pointwise [] (y ∷ z) = refl
same-pointwise (x ∷ a) [] = refl
same-pointwise (x ∷ a) (y ∷ z) = ap (λ (t : Bool). eqb x y && t) (same-pointwise a z)

eqb_swap : (x y : ℕ) → eqb y x ≡ eqb x y
eqb_swap x y = go (eqb x y) refl
  where
    go : (t : Bool) → eqb x y ≡ t → eqb y x ≡ t
    go true e = eq-eqb y x (sym (eqb-true x y e))
    go false e = ne_eqb y x (λ h. eqb-false x y e (sym h))

-- of texts of one length, that the one begins with the other is that they are the same
pub same-begins : (a z : Bytes) {t : Bool} → length a ≡ length z → t ≡ begins z a → t ≡ same a z
unfolding begins same
same-begins a z h e = e ∙ go a z h
  where
    go : (a z : Bytes) → length a ≡ length z → begins z a ≡ same a z
    go [] [] h = refl
    go [] (y ∷ z) h = absurd (omega arith)
    go (x ∷ a) [] h = absurd (omega arith)
    go (x ∷ a) (y ∷ z) h = rw (go a z (omega arith), eqb_swap x y)

pub same_short : (a z : Bytes) → (length a ≡ length z → ⊥) → false ≡ same a z
unfolding same
same_short [] [] h = absurd (h refl)
same_short [] (y ∷ z) h = refl
same_short (x ∷ a) [] h = refl
same_short (x ∷ a) (y ∷ z) h = rw (← same_short a z (λ e. h (ap suc e))) (sym (and-false (eqb x y)))

-- `same` is equality
pub same_true : (a z : Bytes) → same a z ≡ true → a ≡ z
unfolding same
same_true [] [] e = refl
same_true [] (y ∷ z) e = absurd (let no_way : ◌≡◌ {A = ℕ} 0 1 = cc in omega arith)
same_true (x ∷ a) [] e = absurd (let no_way : ◌≡◌ {A = ℕ} 0 1 = cc in omega arith)
same_true (x ∷ a) (y ∷ z) e =
    let both = and-true (eqb x y) (same a z) e in
    let h : x ≡ y = eqb-true x y both.0 in
    let t : a ≡ z = same_true a z both.1 in cc

pub same_refl : (a : Bytes) → same a a ≡ true
unfolding same
same_refl [] = refl
same_refl (x ∷ a) = rw (eq-eqb x x refl, same_refl a)

-- ---- first places

module _ (p : Bytes → Bool) where
  first_past : (s : Bytes) (i : ℕ) → i < length s → p (drop i s) ≡ false → first_at p (drop i s) ≡ suc (first_at p (drop (i + 1) s))
  unfolding first_at
  first_past s i h e = let c = drop_at s i h in rw c (rw (sym (ap p c) ∙ e, first_at))

  first_here : (s : Bytes) (i : ℕ) → i < length s → p (drop i s) ≡ true → first_at p (drop i s) ≡ 0
  unfolding first_at
  first_here s i h e = let c = drop_at s i h in rw c (rw (sym (ap p c) ∙ e, first_at))

  -- one turn of a search: not here, so further on
  pub first-turn : (s : Bytes) (i n : ℕ) {t : Bool} {r : Bytes} → i < length s → r ≡ drop i s → t ≡ p r → t ≡ false
      → i + first_at p (drop i s) ≡ n → i + 1 + first_at p (drop (i + 1) s) ≡ n
  first-turn s i n h er et e inv = omega (arith, first_past s i h (ap p (sym er) ∙ sym et ∙ e))

  pub first_stop : (s : Bytes) (i n : ℕ) {t : Bool} {r : Bytes} → i < length s → r ≡ drop i s → t ≡ p r → t ≡ true
      → i + first_at p (drop i s) ≡ n → i ≡ n
  first_stop s i n h er et e inv = omega (arith, first_here s i h (ap p (sym er) ∙ sym et ∙ e))

  pub first_end : (s : Bytes) (i n : ℕ) → length s ≤ i → i + first_at p (drop i s) ≡ n → i ≡ n
  unfolding first_at
  first_end s i n h inv = omega (arith, ap (first_at p) (drop_of_length-le s h))

  pub first-le : (s : Bytes) → first_at p s ≤ length s
  unfolding first_at
  first-le [] = omega arith
  first-le (x ∷ s) = go (p (x ∷ s)) (first-le s)
    where
      go : (t : Bool) → first_at p s ≤ length s → elim t as (λ t. ℕ) [ true ↦ 0 | false ↦ suc (first_at p s) ] ≤ suc (length s)
      go true h = omega arith
      go false h = omega arith

  -- nothing before the first place passes the test
  pub first_before : (s : Bytes) (k : ℕ) → k < first_at p s → p (drop k s) ≡ false
  unfolding first_at
  first_before [] k h = absurd (omega arith)
  first_before (x ∷ s) k h = go (p (x ∷ s)) refl k h (λ k l. first_before s k l)
    where
      go : (t : Bool) → p (x ∷ s) ≡ t → (k : ℕ) → k < elim t as (λ t. ℕ) [ true ↦ 0 | false ↦ suc (first_at p s) ]
          → ((k : ℕ) → k < first_at p s → p (drop k s) ≡ false) → p (drop k (x ∷ s)) ≡ false
      go true e k l f = absurd (omega arith)
      go false e zero l f = e
      go false e (suc k) l f = f k (omega arith)

  -- the first place, where there is one, passes it
  pub first_found : (s : Bytes) → first_at p s < length s → p (drop (first_at p s) s) ≡ true
  unfolding first_at
  first_found [] h = absurd (omega arith)
  first_found (x ∷ s) h = go (p (x ∷ s)) refl h (λ l. first_found s l)
    where
      go : (t : Bool) → p (x ∷ s) ≡ t → elim t as (λ t. ℕ) [ true ↦ 0 | false ↦ suc (first_at p s) ] < suc (length s)
          → (first_at p s < length s → p (drop (first_at p s) s) ≡ true)
          → p (drop (elim t as (λ t. ℕ) [ true ↦ 0 | false ↦ suc (first_at p s) ]) (x ∷ s)) ≡ true
      go true e l f = e
      go false e l f = f (omega arith)

-- ---- one byte

begins_byte : (s : Bytes) (i x : ℕ) → i < length s → begins (x ∷ []) (drop i s) ≡ eqb x (get_or s i 0) && true
unfolding begins
begins_byte s i x h = rw (drop_at s i h)

pub byte_turn : (s : Bytes) (i x n : ℕ) → i < length s → (get_or s i 0 ≡ x → ⊥)
    → i + find (x ∷ []) (drop i s) ≡ n → i + 1 + find (x ∷ []) (drop (i + 1) s) ≡ n
byte_turn s i x n h e inv =
    first-turn (begins (x ∷ [])) s i n h refl (sym (begins_byte s i x h ∙ rw (ne_eqb x (get_or s i 0) (λ z. e (sym z))))) refl inv

pub byte_stop : (s : Bytes) (i x n : ℕ) → i < length s → get_or s i 0 ≡ x → i + find (x ∷ []) (drop i s) ≡ n → i ≡ n
byte_stop s i x n h e inv =
    first_stop (begins (x ∷ [])) s i n h refl (sym (begins_byte s i x h ∙ rw (eq-eqb x (get_or s i 0) (sym e)))) refl inv

pub find-hit : (x y : ℕ) (s : Bytes) → y ≡ x → find (x ∷ []) (y ∷ s) ≡ 0
find-hit x y s e = sym (byte_stop (y ∷ s) 0 x (find (x ∷ []) (y ∷ s)) (omega arith) e (omega arith))

pub find-miss : (x y : ℕ) (s : Bytes) → (y ≡ x → ⊥) → find (x ∷ []) (y ∷ s) ≡ find (x ∷ []) s + 1
find-miss x y s n = omega (arith, byte_turn (y ∷ s) 0 x (find (x ∷ []) (y ∷ s)) (omega arith) n (omega arith))

pub find-none : (w : Bytes) → find w [] ≡ 0
unfolding first_at
find-none w = refl
