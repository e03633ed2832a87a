-- Laws of the scan of an attribute.
use mathlib.Core.Path.{◌≡◌, refl, sym, ap, ◌∙◌}
use mathlib.Core.Bool.{Bool, true, false, not}
use mathlib.Core.List.{[], ◌∷◌, ◌++◌}
use Prim.Native.Nat.{ℕ, suc, ◌+◌, ◌-◌, ◌≤◌, ◌<◌}
use native.Mathlib.Omega.{arith}
use lib.ListN.{length, get_or, take, drop, drop_of_length-le, length-drop, take-append-drop}
use lib.Seq.{drop-drop, length-take-le, take-length}
use lib.Dec.{eqb}
use mathlib.Core.Bool.{cond}
use Rattle.std.specs.List.{prefix_len}
use Rattle.std.proofs.lemmas.List.Folds.{length-prefix_len}
use borrow.Author.Tests.{eqb-true}
use Rattle.parts.specs.Bytes.{Bytes, b}
use Rattle.parts.proofs.Laws.{drop_at}
use Rattle.chars.proofs.Laws.{below, beyond, inside}
use Rattle.attrs.specs.Barred.{in_key, in_value, lead, RunTo, Simple, Barred}

-- ---- a byte of a key

pub key_low : (x : ℕ) → x < 35 → in_key x ≡ false
unfolding in_key
key_low x h = rw (below 35 126 x h)

pub key_high : (x : ℕ) → 126 < x → in_key x ≡ false
unfolding in_key
key_high x h = rw (beyond 35 126 x h)

pub key_within : (x : ℕ) → 35 ≤ x → x ≤ 126 → in_key x ≡ not (eqb x 61)
unfolding in_key
key_within x l h = rw (inside 35 126 x l h)

-- ---- runs

-- what `&s[i..]` is
pub rest_is : (s : Bytes) (i : ℕ) → take (length s - i) (drop i s) ≡ drop i s
rest_is s i = rw (← length-drop i s) (take-length (drop i s))

module _ (p : ℕ → Bool) where
  lead-le : (s : Bytes) → lead p s ≤ length s
  unfolding lead
  lead-le [] = omega arith
  lead-le (x ∷ s) = go (p x) (lead-le s)
    where
      go : (t : Bool) → lead p s ≤ length s → elim t as (λ t. ℕ) [ true ↦ suc (lead p s) | false ↦ 0 ] ≤ suc (length s)
      go true h = omega arith
      go false h = omega arith

  -- all of what a run takes passes the test
  lead-take : (s : Bytes) → Simple p (take (lead p s) s)
  unfolding lead
  lead-take [] = refl
  lead-take (x ∷ s) = go (p x) refl (lead-take s)
    where
      go : (t : Bool) → p x ≡ t → Simple p (take (lead p s) s) → Simple p (take (elim t as (λ t. ℕ) [ true ↦ suc (lead p s) | false ↦ 0 ]) (x ∷ s))
      go true e h = rw (e, lead) (ap suc h)
      go false e h = refl

  run_to : (s : Bytes) (from : ℕ) {i : ℕ} → i ≡ from + lead p (drop from s) → RunTo p s from i
  run_to s from e = record { within = omega (arith, lead-le (drop from s), length-drop from s); is = e }

  lead-prefix : (s : Bytes) → prefix_len p s ≡ lead p s
  unfolding lead
  lead-prefix [] = refl
  lead-prefix (x ∷ s) = go (p x) (lead-prefix s)
    where
      go : (t : Bool) → prefix_len p s ≡ lead p s → cond t (1 + prefix_len p s) 0 ≡ elim t as (λ t. ℕ) [ true ↦ suc (lead p s) | false ↦ 0 ]
      go true e = omega arith
      go false e = refl

  -- a run, as it is counted
  pub run_counted : (s : Bytes) (from : ℕ) {n : ℕ} → n ≡ length (take (prefix_len p (drop from s)) (drop from s)) → RunTo p s from (from + n)
  run_counted s from e = run_to s from (ap (λ (k : ℕ). from + k) (e ∙ length-prefix_len p (drop from s) ∙ lead-prefix (drop from s)))

  -- a run, and what follows it
  run-split : {s : Bytes} {from i : ℕ} → RunTo p s from i → {z : Bytes} → drop i s ≡ z → drop from s ≡ take (lead p (drop from s)) (drop from s) ++ z
  run-split {s} {from} r e =
      let k : ℕ = lead p (drop from s) in
      sym (take-append-drop k (drop from s))
      ∙ ap (λ (z : Bytes). take k (drop from s) ++ z) (drop-drop k from s ∙ ap (λ (n : ℕ). drop n s) (sym r.is) ∙ e)

-- ---- the whole text

module _ (s : Bytes) (bar : get_or s 0 0 ≡ 124) {i : ℕ} (ri : RunTo in_key s 1 i) (some : i ≡ 1 → ⊥) (room : 3 ≤ length s - i)
    (equal : get_or s i 0 ≡ 61) (quote : get_or s (i + 1) 0 ≡ 34) {j : ℕ} (rj : RunTo in_value s (i + 2) j) where
  front : drop i s ≡ b "=\"" ++ drop (i + 2) s
  front =
      let two : i + 1 + 1 ≡ i + 2 = omega arith in
      drop_at s i (omega arith) ∙ rw (drop_at s (i + 1) (omega arith), equal, quote, two)

  pub pair_found : length s - j ≡ 1 → eqb (get_or s j 0) 34 ≡ true → Barred s
  pair_found one last =
      let none : drop (j + 1) s ≡ [] = drop_of_length-le s {i = j + 1} (omega arith) in
      let end : drop j s ≡ b "\"" = drop_at s j (omega arith) ∙ rw (eqb-true (get_or s j 0) 34 last, none) in
      record {
        key = take (lead in_key (drop 1 s)) (drop 1 s);
        value = take (lead in_value (drop (i + 2) s)) (drop (i + 2) s);
        is = drop_at s 0 (omega arith) ∙ rw bar (ap (λ (z : Bytes). 124 ∷ z) (run-split in_key ri (front ∙ ap (λ (z : Bytes). b "=\"" ++ z) (run-split in_value rj end))));
        some = omega (arith, ri.is, length-take-le (lead in_key (drop 1 s)) (drop 1 s) (lead-le in_key (drop 1 s)));
        simple_key = lead-take in_key (drop 1 s);
        simple_value = lead-take in_value (drop (i + 2) s);
      }
