-- The rows of table 3-7: what fits one, and that at most one fits.
use mathlib.Core.Path.{◌≡◌, refl, sym, ap}
use mathlib.Core.Bool.{Bool, true, false, cond, ◌&&◌, ◌||◌, and-false}
use mathlib.Core.List.Memᴰ
use mathlib.Core.List.{List, [], ◌∷◌, ◌++◌, Memᴰ}
use mathlib.Core.Logic.{⊎_elim}
use Prim.Native.Nat.{ℕ, zero, suc, ◌≤◌, ◌<◌}
use native.Mathlib.Omega.{arith}
use lib.ListN.{length, get_or, take}
use lib.Dec.{leb, ltb}
use borrow.Author.Tests.{lt-leb, le-leb, leb-true, ltb-true}
use Rattle.parts.specs.Bytes.{Bytes}
use Rattle.parts.proofs.Laws.{and-true as both_true}
use Rattle.chars.specs.Range.{Range, within}
use Rattle.chars.specs.Utf8.{tail, table37, fits, row_len}
use Rattle.chars.proofs.Lists.{all, all_at}

pub fits-length : (rs : List Range) (s : Bytes) → fits rs s ≡ true → length rs ≤ length s
unfolding fits
fits-length [] s e = omega arith
fits-length (r ∷ rs) [] e = absurd (let no_way : ◌≡◌ {A = ℕ} 0 1 = cc in omega arith)
fits-length (r ∷ rs) (x ∷ s) e = omega (arith, fits-length rs s (both_true (within r x) (fits rs s) e).1)

-- a row sees no further than its own length
pub fits-take : (rs : List Range) (n : ℕ) (s : Bytes) → length rs ≤ n → fits rs (take n s) ≡ fits rs s
unfolding fits
fits-take [] n s h = refl
fits-take (r ∷ rs) zero s h = absurd (omega arith)
fits-take (r ∷ rs) (suc n) [] h = refl
fits-take (r ∷ rs) (suc n) (x ∷ s) h = rw (fits-take rs n s (omega arith))

-- what does not fit does not fit when it is cut short
pub fits_cut : (rs : List Range) (n : ℕ) (s : Bytes) → fits rs s ≡ false → fits rs (take n s) ≡ false
unfolding fits
fits_cut [] n s e = e
fits_cut (r ∷ rs) zero s e = refl
fits_cut (r ∷ rs) (suc n) [] e = refl
fits_cut (r ∷ rs) (suc n) (x ∷ s) e = go (within r x) e (λ h. fits_cut rs n s h)
  where
    go : (t : Bool) → t && fits rs s ≡ false → (fits rs s ≡ false → fits rs (take n s) ≡ false) → t && fits rs (take n s) ≡ false
    go true e f = f e
    go false e f = refl

pub fits-append : (rs : List Range) (s z : Bytes) → fits rs s ≡ true → fits rs (s ++ z) ≡ true
unfolding fits
fits-append [] s z e = refl
fits-append (r ∷ rs) [] z e = absurd (let no_way : ◌≡◌ {A = ℕ} 0 1 = cc in omega arith)
fits-append (r ∷ rs) (x ∷ s) z e =
    let h = both_true (within r x) (fits rs s) e in rw (h.0, fits-append rs s z h.1)

pub row-le : (t : List (List Range)) (s : Bytes) → row_len t s ≤ length s
unfolding row_len
row-le [] s = omega arith
row-le (r ∷ t) s = go (fits r s) refl (row-le t s)
  where
    go : (f : Bool) → fits r s ≡ f → row_len t s ≤ length s → cond f (length r) (row_len t s) ≤ length s
    go true e h = fits-length r s e
    go false e h = h

pub row-take : (t : List (List Range)) (n : ℕ) (s : Bytes) → row_len t s ≤ n → row_len t (take n s) ≡ row_len t s
unfolding row_len
row-take [] n s h = refl
row-take (r ∷ t) n s h = go (fits r s) refl h (λ k. row-take t n s k)
  where
    go : (f : Bool) → fits r s ≡ f → cond f (length r) (row_len t s) ≤ n → (row_len t s ≤ n → row_len t (take n s) ≡ row_len t s)
        → cond (fits r (take n s)) (length r) (row_len t (take n s)) ≡ cond f (length r) (row_len t s)
    go true e h k = rw (fits-take r n s h, e)
    go false e h k = rw (fits_cut r n s e) (k h)

-- rows of at most so many bytes
unfoldable pub narrow : ℕ → List Range → Bool
narrow m r = leb (length r) m

pub row-narrow : (m : ℕ) (t : List (List Range)) (s : Bytes) → all (narrow m) t ≡ true → row_len t s ≤ m
unfolding row_len narrow all
row-narrow m [] s e = omega arith
row-narrow m (r ∷ t) s e =
    let h = both_true (leb (length r) m) (all (narrow m) t) e in
    go (fits r s) (leb-true (length r) m h.0) (row-narrow m t s h.1)
  where
    go : (f : Bool) → length r ≤ m → row_len t s ≤ m → cond f (length r) (row_len t s) ≤ m
    go true h k = h
    go false h k = k

-- the row that fits, where one does
pub record Row (t : List (List Range)) (s : Bytes) : Type 0 where
  pub row : List Range
  pub listed : Memᴰ row t
  pub fitting : fits row s ≡ true
  pub same : row_len t s ≡ length row

pub row-found : (t : List (List Range)) (s : Bytes) → 0 < row_len t s → Row t s
unfolding row_len
row-found [] s h = absurd (omega arith)
row-found (r ∷ t) s h = go (fits r s) refl h (λ k. row-found t s k)
  where
    go : (f : Bool) → fits r s ≡ f → 0 < cond f (length r) (row_len t s) → (0 < row_len t s → Row t s) → Row (r ∷ t) s
    go true e h k = record { row = r; listed = Memᴰ.head refl; fitting = e; same = rw e }
    go false e h k =
        let w = k h in record { row = w.row; listed = Memᴰ.tail w.listed; fitting = w.fitting; same = rw e w.same }

-- rows whose first ranges are in order, from a limit on
unfoldable pub ordered : ℕ → List (List Range) → Bool
ordered l [] = true
ordered l ([] ∷ t) = false
ordered l ((r ∷ rs) ∷ t) = leb l r.low && (leb r.low r.high && ordered (suc r.high) t)

pub table-ordered : ordered 0 table37 ≡ true
unfolding ordered table37
table-ordered = refl

-- a text that a row fits begins with a byte of the row's first range
pub fits-first : (r : Range) (rs : List Range) (s : Bytes) → fits (r ∷ rs) s ≡ true
    → (0 < length s) × (r.low ≤ get_or s 0 0) × (get_or s 0 0 ≤ r.high)
unfolding fits within
fits-first r rs [] e = absurd (let no_way : ◌≡◌ {A = ℕ} 0 1 = cc in omega arith)
fits-first r rs (x ∷ s) e =
    let h = both_true (leb r.low x) (leb x r.high) (both_true (within r x) (fits rs s) e).0 in
    (omega arith, leb-true r.low x h.0, leb-true x r.high h.1)

-- a text that one of the rows fits begins with a byte from the limit on
lead : (l : ℕ) (t : List (List Range)) (r : List Range) (s : Bytes) → ordered l t ≡ true → Memᴰ r t → fits r s ≡ true
    → (0 < length s) × (l ≤ get_or s 0 0)
unfolding ordered
lead l [] r s o m e = absurd (Memᴰ.not-nil m)
lead l ([] ∷ t) r s o m e = absurd (let no_way : ◌≡◌ {A = ℕ} 0 1 = cc in omega arith)
lead l ((q ∷ qs) ∷ t) r s o m e =
    let a = both_true (leb l q.low) _ o in
    let z = both_true (leb q.low q.high) _ a.1 in
    ⊎_elim (λ same. here (leb-true l q.low a.0) (fits-first q qs s (rw same at e)))
    (λ later. further (leb-true l q.low a.0) (leb-true _ _ z.0) (lead (suc q.high) t r s z.1 later e))
    (Memᴰ.cases_cons m)
  where
    here : l ≤ q.low → (0 < length s) × (q.low ≤ get_or s 0 0) × (get_or s 0 0 ≤ q.high) → (0 < length s) × (l ≤ get_or s 0 0)
    here h p = (p.0, omega arith)

    further : l ≤ q.low → q.low ≤ q.high → (0 < length s) × (suc q.high ≤ get_or s 0 0) → (0 < length s) × (l ≤ get_or s 0 0)
    further h k p = (p.0, omega arith)

-- a text that begins beyond a row's first range does not fit the row
fits_beyond : (r : Range) (rs : List Range) (s : Bytes) → r.high < get_or s 0 0 → fits (r ∷ rs) s ≡ false
unfolding fits within
fits_beyond r rs [] h = refl
fits_beyond r rs (x ∷ s) h = rw (lt-leb x r.high h, and-false)

-- of rows in order at most one fits
pub row_only : (l : ℕ) (t : List (List Range)) (r : List Range) (s : Bytes) → ordered l t ≡ true → Memᴰ r t → fits r s ≡ true
    → row_len t s ≡ length r
unfolding ordered row_len
row_only l [] r s o m e = absurd (Memᴰ.not-nil m)
row_only l ([] ∷ t) r s o m e = absurd (let no_way : ◌≡◌ {A = ℕ} 0 1 = cc in omega arith)
row_only l ((q ∷ qs) ∷ t) r s o m e =
    let z = both_true (leb q.low q.high) _ (both_true (leb l q.low) _ o).1 in
    ⊎_elim (λ same. rw (rw same at e) (sym (ap length same)))
    (λ later. rw (fits_beyond q qs s (lead (suc q.high) t r s z.1 later e).1) (row_only (suc q.high) t r s z.1 later e))
    (Memᴰ.cases_cons m)

pub row-some : (r : List Range) (s : Bytes) → Memᴰ r table37 → fits r s ≡ true → 0 < length s
row-some r s m e = (lead 0 table37 r s table-ordered m e).0

-- ---- the bytes of a sequence

-- ranges within 80..BF
unfoldable pub inner : List Range → Bool
inner [] = true
inner (r ∷ rs) = leb 128 r.low && (leb r.high 191 && inner rs)

-- a first range apart from 80..BF, and the others within it
unfoldable pub shaped : List Range → Bool
shaped [] = false
shaped (r ∷ rs) = (ltb r.high 128 || ltb 191 r.low) && inner rs

table-shaped : all shaped table37 ≡ true
unfolding all shaped inner table37
table-shaped = refl

fits-inner : (rs : List Range) (s : Bytes) (i : ℕ) → inner rs ≡ true → fits rs s ≡ true → i < length rs → within tail (get_or s i 0) ≡ true
unfolding inner fits within
fits-inner [] s i e f h = absurd (omega arith)
fits-inner (r ∷ rs) [] i e f h = absurd (let no_way : ◌≡◌ {A = ℕ} 0 1 = cc in omega arith)
fits-inner (r ∷ rs) (x ∷ s) zero e f h =
    let a = both_true (leb 128 r.low) _ e in
    let z = both_true (leb r.high 191) _ a.1 in
    let p = both_true (leb r.low x) (leb x r.high) (both_true (within r x) (fits rs s) f).0 in
    let a₁ = leb-true 128 r.low a.0 in
    let z₁ = leb-true r.high 191 z.0 in
    let p₁ = leb-true r.low x p.0 in
    let p₂ = leb-true x r.high p.1 in
    rw (le-leb 128 x (omega arith), le-leb x 191 (omega arith))
fits-inner (r ∷ rs) (x ∷ s) (suc i) e f h =
    fits-inner rs s i (both_true (leb r.high 191) _ (both_true (leb 128 r.low) _ e).1).1 (both_true (within r x) (fits rs s) f).1 (omega arith)

shaped-inner : (r : List Range) (s : Bytes) (i : ℕ) → shaped r ≡ true → fits r s ≡ true → 0 < i → i < length r → within tail (get_or s i 0) ≡ true
unfolding shaped fits
shaped-inner [] s i e f l h = absurd (omega arith)
shaped-inner (r ∷ rs) [] i e f l h = absurd (let no_way : ◌≡◌ {A = ℕ} 0 1 = cc in omega arith)
shaped-inner (r ∷ rs) (x ∷ s) zero e f l h = absurd (omega arith)
shaped-inner (r ∷ rs) (x ∷ s) (suc i) e f l h =
    fits-inner rs s i (both_true (ltb r.high 128 || ltb 191 r.low) (inner rs) e).1 (both_true (within r x) (fits rs s) f).1 (omega arith)

shaped-first : (r : List Range) (s : Bytes) → shaped r ≡ true → fits r s ≡ true → within tail (get_or s 0 0) ≡ false
unfolding shaped within
shaped-first [] s e f = absurd (let no_way : ◌≡◌ {A = ℕ} 0 1 = cc in omega arith)
shaped-first (r ∷ rs) s e f =
    go (ltb r.high 128) refl (both_true (ltb r.high 128 || ltb 191 r.low) (inner rs) e).0 (fits-first r rs s f)
  where
    go : (t : Bool) → ltb r.high 128 ≡ t → t || ltb 191 r.low ≡ true → (0 < length s) × (r.low ≤ get_or s 0 0) × (get_or s 0 0 ≤ r.high)
        → leb 128 (get_or s 0 0) && leb (get_or s 0 0) 191 ≡ false
    go true e g p = let k = ltb-true r.high 128 e in rw (lt-leb 128 (get_or s 0 0) (omega arith))
    go false e g p =
        let k = ltb-true 191 r.low g in rw (lt-leb (get_or s 0 0) 191 (omega arith), and-false)

module _ (r : List Range) (s : Bytes) (m : Memᴰ r table37) (f : fits r s ≡ true) where
  -- the bytes behind the first of a sequence lie in 80..BF, and the first does not
  pub row-inner : (i : ℕ) → 0 < i → i < length r → within tail (get_or s i 0) ≡ true
  row-inner i l h = shaped-inner r s i (all_at shaped table37 r table-shaped m) f l h

  pub row_first : within tail (get_or s 0 0) ≡ false
  row_first = shaped-first r s (all_at shaped table37 r table-shaped m) f
