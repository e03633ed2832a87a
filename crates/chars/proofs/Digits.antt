-- Laws of decimal digits.
use mathlib.Core.Path.{◌≡◌, refl}
use mathlib.Core.Bool.{Bool, true, false}
use mathlib.Core.List.{[], ◌∷◌, ◌++◌, Memᴰ}
use Prim.Native.Nat.{ℕ, zero, suc, ◌+◌, ◌-◌, ◌*◌, ◌/◌, ◌%◌, ◌^◌, ◌≤◌, ◌<◌}
use native.Mathlib.Nat.{pow-suc, div-add-mod, div-lt_iff_lt-mul, mod-lt}
use native.Mathlib.Omega.{arith}
use lib.ListN.{length, get_or, length-append, get_or-append}
use lib.Dec.{leb, ltb}
use borrow.Author.Tests.{lt-ltb, le-ltb, ltb-true, ltb-false, leb-true, le-leb}
use Rattle.parts.specs.Bytes.{Bytes}
use Rattle.parts.proofs.Laws.{and-true as both_true}
use Rattle.chars.specs.Range.{◌to◌, within}
use Rattle.chars.specs.Decimal.{digits, decimal, value_from, value_of}
use Rattle.chars.proofs.Lists.{all, all_at, all_append}

value_last : (n : ℕ) (s : Bytes) (x : ℕ) → value_from n (s ++ (x ∷ [])) ≡ 10 * value_from n s + (x - 48)
unfolding value_from
value_last n [] x = refl
value_last n (y ∷ s) x = value_last (10 * n + (y - 48)) s x

-- the two cases of a number's digits
module _ (k n : ℕ) where
  pub digits_one : n < 10 → digits (suc k) n ≡ (48 + n) ∷ []
  unfolding digits
  digits_one h = rw (lt-ltb n 10 h, digits)

  pub digits_more : 10 ≤ n → digits (suc k) n ≡ digits k (n / 10) ++ ((48 + n % 10) ∷ [])
  unfolding digits
  digits_more h = rw (le-ltb n 10 h, digits)

quotient_below : (k n : ℕ) → n < 10 ^ suc k → n / 10 < 10 ^ k
quotient_below k n h = (div-lt_iff_lt-mul {k = 10} {x = n} {y = 10 ^ k} (omega arith)).1 (rw (← pow-suc 10 k) h)

-- the digits of a number write it
pub digits_value : (k n : ℕ) → n < 10 ^ k → value_of (digits k n) ≡ n
unfolding value_of value_from digits
digits_value zero n h = omega arith
digits_value (suc k) n h = go (ltb n 10) refl (digits_value k (n / 10) (quotient_below k n h))
  where
    go : (t : Bool) → ltb n 10 ≡ t → value_from 0 (digits k (n / 10)) ≡ n / 10 → value_from 0 (digits (suc k) n) ≡ n
    go true e f = rw (digits_one k n (ltb-true n 10 e)) (omega arith)
    go false e f =
        rw (digits_more k n (ltb-false n 10 e), value_last 0 (digits k (n / 10)) (48 + n % 10), f) (omega (arith, div-add-mod n 10))

pub digits-length : (k n : ℕ) → length (digits k n) ≤ k
unfolding digits
digits-length zero n = omega arith
digits-length (suc k) n = go (ltb n 10) refl (digits-length k (n / 10))
  where
    go : (t : Bool) → ltb n 10 ≡ t → length (digits k (n / 10)) ≤ k → length (digits (suc k) n) ≤ suc k
    go true e f = rw (digits_one k n (ltb-true n 10 e)) (omega arith)
    go false e f =
        rw (digits_more k n (ltb-false n 10 e)) (omega (arith, length-append (digits k (n / 10)) ((48 + n % 10) ∷ [])))

digits-some : (k n : ℕ) → 0 < length (digits (suc k) n)
digits-some k n = go (ltb n 10) refl
  where
    go : (t : Bool) → ltb n 10 ≡ t → 0 < length (digits (suc k) n)
    go true e = rw (digits_one k n (ltb-true n 10 e)) (omega arith)
    go false e =
        rw (digits_more k n (ltb-false n 10 e)) (omega (arith, length-append (digits k (n / 10)) ((48 + n % 10) ∷ [])))

digit_within : (n : ℕ) → n < 10 → within (48 to 57) (48 + n) ≡ true
unfolding within
digit_within n h = rw (le-leb 48 (48 + n) (omega arith), le-leb (48 + n) 57 (omega arith))

digits-within : (k n : ℕ) → all (within (48 to 57)) (digits k n) ≡ true
unfolding all digits
digits-within zero n = refl
digits-within (suc k) n = go (ltb n 10) refl (digits-within k (n / 10))
  where
    go : (t : Bool) → ltb n 10 ≡ t → all (within (48 to 57)) (digits k (n / 10)) ≡ true → all (within (48 to 57)) (digits (suc k) n) ≡ true
    go true e f = rw (digits_one k n (ltb-true n 10 e), digit_within n (ltb-true n 10 e))
    go false e f =
        rw (
          digits_more k n (ltb-false n 10 e),
          all_append (within (48 to 57)) (digits k (n / 10)) ((48 + n % 10) ∷ []),
          f,
          digit_within (n % 10) (mod-lt n (omega arith)),
        )

-- every byte is one of 0..9
pub digits_byte : (k n x : ℕ) → Memᴰ x (digits k n) → (48 ≤ x) × (x ≤ 57)
unfolding within
digits_byte k n x m =
    let h = both_true (leb 48 x) (leb x 57) (all_at (within (48 to 57)) (digits k n) x (digits-within k n) m) in
    (leb-true 48 x h.0, leb-true x 57 h.1)

-- the first digit is 0 only where the number is
pub digits-first : (k n : ℕ) → n < 10 ^ k → 0 < n → get_or (digits k n) 0 0 ≡ 48 → ⊥
digits-first zero n h l e = omega arith
digits-first (suc k) n h l e = go (ltb n 10) refl k (quotient_below k n h) (λ p q. digits-first k (n / 10) (quotient_below k n h) p q) e
  where
    go : (t : Bool) → ltb n 10 ≡ t → (k : ℕ) → n / 10 < 10 ^ k → (0 < n / 10 → get_or (digits k (n / 10)) 0 0 ≡ 48 → ⊥)
        → get_or (digits (suc k) n) 0 0 ≡ 48 → ⊥
    go true u k h f e = omega (arith, rw (digits_one k n (ltb-true n 10 u)) at e)
    go false u zero h f e = omega (arith, ltb-false n 10 u)
    go false u (suc k) h f e =
        f (omega (arith, ltb-false n 10 u))
        (rw (digits_more (suc k) n (ltb-false n 10 u), get_or-append (digits (suc k) (n / 10)) ((48 + n % 10) ∷ []) 0 0 (digits-some k (n / 10))) at e)

-- ---- at most ten digits, as a u32 has

pub decimal_value : (n : ℕ) → n < 10 ^ 10 → value_of (decimal n) ≡ n
unfolding decimal
decimal_value n h = digits_value 10 n h

pub decimal-length : (n : ℕ) → length (decimal n) ≤ 10
unfolding decimal
decimal-length n = digits-length 10 n

pub decimal-some : (n : ℕ) → 0 < length (decimal n)
unfolding decimal
decimal-some n = digits-some 9 n

pub decimal_byte : (n x : ℕ) → Memᴰ x (decimal n) → (48 ≤ x) × (x ≤ 57)
unfolding decimal
decimal_byte n x m = digits_byte 10 n x m

pub decimal-first : (n : ℕ) → n < 10 ^ 10 → 0 < n → get_or (decimal n) 0 0 ≡ 48 → ⊥
unfolding decimal
decimal-first n h l e = digits-first 10 n h l e
