-- Laws of decimal digits, for a loop that writes them from the last on.
use mathlib.Core.Path.{◌≡◌, sym, ◌∙◌}
use mathlib.Core.List.{[], ◌∷◌, ◌++◌, append_assoc, append-nil}
use Prim.Native.Nat.{ℕ, zero, suc, ◌+◌, ◌-◌, ◌/◌, ◌%◌, ◌^◌, ◌≤◌, ◌<◌}
use native.Mathlib.Nat.{pow-suc, div-lt_iff_lt-mul}
use native.Mathlib.Omega.{arith}
use lib.ListN.{length, drop, set, length-set, drop_of_length-le}
use lib.Seq.{drop-cons, get_or-set_same, drop-set-lt}
use Rattle.parts.specs.Bytes.{Bytes}
use Rattle.chars.specs.Decimal.{digits, decimal}
use Rattle.chars.proofs.Digits.{digits_one, digits_more}

-- what is left of a number, in front of the digits that stand behind index i
pub record Left (n : ℕ) (bytes : Bytes) (i m : ℕ) : Type 0 where
  pub last : i < 10
  pub size : length bytes ≡ 10
  pub small : m < 10 ^ suc i
  pub same : digits (suc i) m ++ drop (suc i) bytes ≡ decimal n

pub left_start : (n : ℕ) (bytes : Bytes) → n < 2 ^ 32 → length bytes ≡ 10 → Left n bytes 9 n
unfolding decimal
left_start n bytes h l =
    record {
      last = omega arith;
      size = l;
      small = omega arith;
      same = rw (drop_of_length-le bytes {i = 10} (omega arith)) (append-nil (digits 10 n));
    }

drop_stored : (bytes : Bytes) (i x : ℕ) → i < length bytes → drop i (set bytes i x) ≡ x ∷ drop (suc i) bytes
drop_stored bytes i x h =
    drop-cons (set bytes i x) i 0 (omega (arith, length-set bytes i x))
    ∙ rw (get_or-set_same bytes i x 0 h, drop-set-lt (suc i) bytes i x (omega arith))

-- a number of two digits or more has a place before the last
pub left-room : (i m : ℕ) → m < 10 ^ suc i → 10 ≤ m → 1 ≤ i
left-room zero m h l = absurd (omega arith)
left-room (suc i) m h l = omega arith

pub left-turn : (n : ℕ) (bytes : Bytes) (i m : ℕ) → Left n bytes i m → 10 ≤ m → Left n (set bytes i (48 + m % 10)) (i - 1) (m / 10)
left-turn n bytes zero m z h = absurd (omega (arith, left-room zero m z.small h))
left-turn n bytes (suc i) m z h =
    let back : suc i - 1 ≡ i = omega arith in
    let whole : i < 10 = omega (arith, z.last) in
    let stored = drop_stored bytes (suc i) (48 + m % 10) (omega (arith, z.last, z.size)) in
    let turned : digits (suc i) (m / 10) ++ drop (suc i) (set bytes (suc i) (48 + m % 10)) ≡ decimal n =
    rw stored (sym (append_assoc (digits (suc i) (m / 10)) ((48 + m % 10) ∷ []) (drop (suc (suc i)) bytes)) ∙ sym (rw (digits_more (suc i) m h)) ∙ z.same) in
    rw back
    (record {
      last = whole;
      size = length-set bytes (suc i) (48 + m % 10) ∙ z.size;
      small = (div-lt_iff_lt-mul {k = 10} {x = m} {y = 10 ^ suc i} (omega arith)).1 (rw (pow-suc 10 (suc i)) at z.small);
      same = turned;
    })

pub left_end : (n : ℕ) (bytes : Bytes) (i m : ℕ) → Left n bytes i m → m < 10 → drop i (set bytes i (48 + m)) ≡ decimal n
left_end n bytes i m z h =
    drop_stored bytes i (48 + m) (omega (arith, z.last, z.size)) ∙ sym (rw (digits_one i m h)) ∙ z.same
