-- The table of white space against the ranges of its definition.
use mathlib.Core.Path.{◌≡◌, refl, sym, ◌∙◌}
use mathlib.Core.Bool.{Bool, true, false, cond, ◌&&◌, ◌||◌, or-false, or_assoc}
use mathlib.Core.List.{List, [], ◌∷◌, ◌++◌}
use Prim.Native.Nat.{ℕ, zero, suc, ◌+◌, ◌-◌, ◌≤◌, ◌<◌}
use native.Mathlib.Omega.{arith}
use lib.ListN.{length, get_or, drop, drop_of_length-le}
use lib.Dec.{leb, eqb}
use borrow.Author.Tests.{ne_eqb, le-leb, lt-leb, eqb-false, leb-true, leb-false}
use Rattle.parts.proofs.Laws.{and-true as both_true, drop_at}
use Rattle.chars.specs.Range.{Range, within, in_any}
use Rattle.chars.specs.Space.{white_space, is_white, searched}
use Rattle.chars.proofs.Laws.{below, beyond}

abbrev pub table : List ℕ
table =
    9 ∷ 10 ∷ 11 ∷ 12 ∷ 13 ∷ 32 ∷ 133 ∷ 160 ∷ 5760 ∷ 8192 ∷ 8193 ∷ 8194 ∷ 8195 ∷ 8196 ∷ 8197 ∷ 8198 ∷ 8199 ∷ 8200 ∷ 8201 ∷ 8202 ∷ 8232
    ∷ 8233 ∷ 8239 ∷ 8287 ∷ 12288 ∷ []

-- ---- membership

unfoldable pub member : ℕ → List ℕ → Bool
member c [] = false
member c (x ∷ xs) = eqb x c || member c xs

-- a list that rises, from a limit on
unfoldable pub rising : ℕ → List ℕ → Bool
rising l [] = true
rising l (x ∷ xs) = leb l x && rising (suc x) xs

member_low : (c l : ℕ) (xs : List ℕ) → c < l → rising l xs ≡ true → member c xs ≡ false
unfolding member rising
member_low c l [] h e = refl
member_low c l (x ∷ xs) h e =
    let k = both_true (leb l x) (rising (suc x) xs) e in
    let m : l ≤ x = leb-true l x k.0 in
    rw (ne_eqb x c (λ (q : x ≡ c). omega arith), member_low c (suc x) xs (omega arith) k.1)

found-member : (c l : ℕ) (xs : List ℕ) → rising l xs ≡ true → searched c xs ≡ member c xs
unfolding member searched rising
found-member c l [] e = refl
found-member c l (x ∷ xs) e =
    let k = both_true (leb l x) (rising (suc x) xs) e in
    go (leb c x) refl k.1 (found-member c (suc x) xs k.1)
  where
    go : (t : Bool) → leb c x ≡ t → rising (suc x) xs ≡ true → searched c xs ≡ member c xs → cond t (eqb x c) (searched c xs) ≡ eqb x c || member c xs
    go true f r h = let g = leb-true c x f in rw (member_low c (suc x) xs (omega arith) r) (sym (or-false (eqb x c)))
    go false f r h = let g = leb-false c x f in rw (ne_eqb x c (λ (q : x ≡ c). omega arith)) h

member-append : (c : ℕ) (xs ys : List ℕ) → member c (xs ++ ys) ≡ member c xs || member c ys
unfolding member
member-append c [] ys = refl
member-append c (x ∷ xs) ys = rw (member-append c xs ys) (sym (or_assoc (eqb x c) (member c xs) (member c ys)))

-- ---- ranges spread out

unfoldable pub span : ℕ → ℕ → List ℕ
span l zero = []
span l (suc n) = l ∷ span (suc l) n

unfoldable pub points : List Range → List ℕ
points [] = []
points (r ∷ rs) = span r.low (suc r.high - r.low) ++ points rs

span_in : (c l n : ℕ) → l ≤ c → c < l + n → member c (span l n) ≡ true
unfolding member span
span_in c l zero h k = absurd (omega arith)
span_in c l (suc n) h k = go (eqb l c) refl (λ p q. span_in c (suc l) n p q)
  where
    go : (t : Bool) → eqb l c ≡ t → (suc l ≤ c → c < suc l + n → member c (span (suc l) n) ≡ true) → t || member c (span (suc l) n) ≡ true
    go true e f = refl
    go false e f = let q = eqb-false l c e in f (omega arith) (omega arith)

span_low : (c l n : ℕ) → c < l → member c (span l n) ≡ false
unfolding member span
span_low c l zero h = refl
span_low c l (suc n) h = rw (ne_eqb l c (λ (q : l ≡ c). omega arith)) (span_low c (suc l) n (omega arith))

span_high : (c l n : ℕ) → l + n ≤ c → member c (span l n) ≡ false
unfolding member span
span_high c l zero h = refl
span_high c l (suc n) h = rw (ne_eqb l c (λ (q : l ≡ c). omega arith)) (span_high c (suc l) n (omega arith))

span-within : (c : ℕ) (r : Range) → member c (span r.low (suc r.high - r.low)) ≡ within r c
unfolding within
span-within c r = go (leb r.low c) refl (leb c r.high) refl
  where
    go : (t : Bool) → leb r.low c ≡ t → (u : Bool) → leb c r.high ≡ u
        → member c (span r.low (suc r.high - r.low)) ≡ t && u
    go true e true f =
        let g = leb-true r.low c e in
        let h = leb-true c r.high f in span_in c r.low _ g (omega arith)
    go true e false f =
        let g = leb-true r.low c e in
        let h = leb-false c r.high f in span_high c r.low _ (omega arith)
    go false e u f = let g = leb-false r.low c e in span_low c r.low _ g

member-points : (c : ℕ) (rs : List Range) → member c (points rs) ≡ in_any rs c
unfolding points in_any member
member-points c [] = refl
member-points c (r ∷ rs) = member-append c (span r.low (suc r.high - r.low)) (points rs) ∙ rw (span-within c r, member-points c rs)

-- ---- the table

spread : points white_space ≡ table
unfolding points span white_space
spread = refl

table_rises : rising 0 table ≡ true
unfolding rising
table_rises = refl

pub white_start : (c : ℕ) → searched c table ≡ is_white c
unfolding is_white
white_start c = found-member c 0 table table_rises ∙ rw (← spread) (member-points c white_space)

module _ (c : ℕ) (xs : List ℕ) (i : ℕ) {t : Bool} (h : i < length xs) where
  pub white_stop : c ≤ get_or xs i 0 → searched c (drop i xs) ≡ t → eqb (get_or xs i 0) c ≡ t
  unfolding searched
  white_stop l inv = sym (rw (drop_at xs i h, le-leb c (get_or xs i 0) l)) ∙ inv

  pub white-turn : get_or xs i 0 < c → searched c (drop i xs) ≡ t → searched c (drop (i + 1) xs) ≡ t
  unfolding searched
  white-turn l inv = sym (rw (drop_at xs i h, lt-leb c (get_or xs i 0) l)) ∙ inv

pub white_end : (c : ℕ) (xs : List ℕ) (i : ℕ) {t : Bool} → length xs ≤ i → searched c (drop i xs) ≡ t → false ≡ t
unfolding searched
white_end c xs i h inv = sym (rw (drop_of_length-le xs h)) ∙ inv

pub white_listed : (c : ℕ) {r : Bool} → r ≡ searched c table → r ≡ is_white c
white_listed c e = e ∙ white_start c

-- no code point between the space and U+0085 is white space
pub between_white : (c : ℕ) → 32 < c → c < 133 → false ≡ is_white c
unfolding is_white white_space in_any
between_white c l h =
    sym (simp (
      beyond 9 13 c (omega arith),
      beyond 32 32 c (omega arith),
      below 133 133 c (omega arith),
      below 160 160 c (omega arith),
      below 5760 5760 c (omega arith),
      below 8192 8202 c (omega arith),
      below 8232 8233 c (omega arith),
      below 8239 8239 c (omega arith),
      below 8287 8287 c (omega arith),
      below 12288 12288 c (omega arith),
    ))
