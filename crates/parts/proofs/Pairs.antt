-- Bytes that stand side by side, and where a byte first stands twice in a row.
use mathlib.Core.Path.{◌≡◌, refl, sym, ap, ◌∙◌, subst}
use mathlib.Core.Bool.{Bool, true, false, ◌&&◌, ◌||◌, or_assoc, or-false, and-true, and-false}
use mathlib.Core.List.{[], ◌∷◌}
use Prim.Native.Nat.{ℕ, zero, suc, ◌+◌, ◌-◌, ◌≤◌, ◌<◌}
use native.Mathlib.Nat.{zero-add}
use native.Mathlib.Omega.{arith}
use lib.ListN.{length, get_or, take, drop, length-drop}
use lib.Seq.{drop-drop}
use lib.Dec.{eqb}
use borrow.Author.Tests.{eq-eqb, ne_eqb}
use Rattle.parts.specs.Bytes.{Bytes, begins, first_at, find}
use Rattle.parts.specs.Pair.{any_pair, is_both, ClearTo, start, block, NoPairTo}
use Rattle.parts.proofs.Laws.{drop_at, drop-part, or_both, first-turn, first_stop, first-le}

-- ---- a test of all pairs

module _ (p : ℕ → ℕ → Bool) (s : Bytes) (i : ℕ) (l : 1 ≤ i) where
  any_step : i < length s → any_pair p (drop (i - 1) s) ≡ p (get_or s (i - 1) 0) (get_or s i 0) || any_pair p (drop i s)
  unfolding any_pair
  any_step h =
      let next : i - 1 + 1 ≡ i = omega arith in
      let here : drop (i - 1) s ≡ get_or s (i - 1) 0 ∷ drop i s = drop_at s (i - 1) (omega arith) ∙ rw next in
      rw (here, drop_at s i h)

  any_none : length s ≤ i → any_pair p (drop (i - 1) s) ≡ false
  unfolding any_pair
  any_none h = go (drop (i - 1) s) (omega (arith, length-drop (i - 1) s))
    where
      go : (t : Bytes) → length t ≤ 1 → any_pair p t ≡ false
      go [] h = refl
      go (x ∷ []) h = refl
      go (x ∷ y ∷ t) h = absurd (omega arith)

  pub any-turn : (found : Bool) {t z : Bool} → i < length s → t ≡ p (get_or s (i - 1) 0) (get_or s i 0)
      → found || any_pair p (drop (i - 1) s) ≡ z → (found || t) || any_pair p (drop (i + 1 - 1) s) ≡ z
  any-turn found {t} h et inv =
      let back : i + 1 - 1 ≡ i = omega arith in
      rw back (or_assoc found t (any_pair p (drop i s)) ∙ rw et (sym (ap (λ (b : Bool). found || b) (any_step h)) ∙ inv))

  pub any_end : (found : Bool) {z : Bool} → length s ≤ i → found || any_pair p (drop (i - 1) s) ≡ z → found ≡ z
  any_end found h inv = sym (rw (any_none h) (or-false found)) ∙ inv

-- ---- clear blocks

-- one block further
pub clear-turn : (Clear : Bytes → Type 0) (s : Bytes) (size step i : ℕ) → size ≤ length s - i → i ≤ length s → Clear (take (i + size - i) (drop i s))
    → ClearTo Clear s size step i → ClearTo Clear s size step (i + step)
clear-turn Clear s size step i h l e to =
    let same : i + size - i ≡ size = omega arith in
    block i (omega arith) (subst (λ n. Clear (take n (drop i s))) same e) to

-- a fact that each clear block keeps holds where they end
pub clear-along : {Clear : Bytes → Type 0} {s : Bytes} {size step i : ℕ} (P : ℕ → Type 0) → P 0
    → ((k : ℕ) → k + size ≤ length s → Clear (take size (drop k s)) → P k → P (k + step)) → ClearTo Clear s size step i → P i
clear-along P z turn start = z
clear-along P z turn (block k h e to) = turn k h e (clear-along P z turn to)

pub clear-within : {Clear : Bytes → Type 0} {s : Bytes} {size step i : ℕ} → step ≤ size → ClearTo Clear s size step i → i ≤ length s
clear-within {s = s} h to = clear-along (λ k. k ≤ length s) (omega arith) (λ k l e p. omega arith) to

-- ---- a byte twice in a row

module _ (x : ℕ) where
  begins_both : (y z : ℕ) (s : Bytes) → is_both x y z ≡ begins (x ∷ x ∷ []) (y ∷ z ∷ s)
  unfolding is_both begins
  begins_both y z s = rw (and-true (eqb x z))

  module _ (s : Bytes) (i : ℕ) (l : 1 ≤ i) where
    here : i < length s → begins (x ∷ x ∷ []) (drop (i - 1) s) ≡ eqb x (get_or s (i - 1) 0) && (eqb x (get_or s i 0) && true)
    unfolding begins
    here h =
        let next : i - 1 + 1 ≡ i = omega arith in
        let front : drop (i - 1) s ≡ get_or s (i - 1) 0 ∷ drop i s = drop_at s (i - 1) (omega arith) ∙ rw next in
        rw (front, drop_at s i h)

    pub each_stop : {n : ℕ} → i < length s → get_or s (i - 1) 0 ≡ x → get_or s i 0 ≡ x → i - 1 + find (x ∷ x ∷ []) (drop (i - 1) s) ≡ n → i - 1 ≡ n
    each_stop {n} h a z inv =
        first_stop (begins (x ∷ x ∷ [])) s (i - 1) n (omega arith) refl (sym (here h ∙ rw (eq-eqb x (get_or s (i - 1) 0) (sym a), eq-eqb x (get_or s i 0) (sym z)))) refl inv

    turn : {n : ℕ} → i < length s → begins (x ∷ x ∷ []) (drop (i - 1) s) ≡ false → i - 1 + find (x ∷ x ∷ []) (drop (i - 1) s) ≡ n
        → i + 1 - 1 + find (x ∷ x ∷ []) (drop (i + 1 - 1) s) ≡ n
    turn {n} h e inv =
        let same : i - 1 + 1 ≡ i + 1 - 1 = omega arith in
        rw (← same) (first-turn (begins (x ∷ x ∷ [])) s (i - 1) n (omega arith) refl (sym e) refl inv)

    pub each_first : {n : ℕ} → i < length s → (get_or s (i - 1) 0 ≡ x → ⊥) → i - 1 + find (x ∷ x ∷ []) (drop (i - 1) s) ≡ n
        → i + 1 - 1 + find (x ∷ x ∷ []) (drop (i + 1 - 1) s) ≡ n
    each_first h f inv = turn h (here h ∙ rw (ne_eqb x (get_or s (i - 1) 0) (λ e. f (sym e)))) inv

    pub each_second : {n : ℕ} → i < length s → (get_or s i 0 ≡ x → ⊥) → i - 1 + find (x ∷ x ∷ []) (drop (i - 1) s) ≡ n
        → i + 1 - 1 + find (x ∷ x ∷ []) (drop (i + 1 - 1) s) ≡ n
    each_second h f inv = turn h (here h ∙ rw (ne_eqb x (get_or s i 0) (λ e. f (sym e))) (and-false (eqb x (get_or s (i - 1) 0)))) inv

    pub each_end : {n : ℕ} → length s ≤ i → i - 1 ≤ length s → i - 1 + find (x ∷ x ∷ []) (drop (i - 1) s) ≡ n → length s ≡ n
    unfolding first_at begins
    each_end h u inv = omega (arith, inv, go (drop (i - 1) s) (omega (arith, length-drop (i - 1) s)), length-drop (i - 1) s)
      where
        go : (t : Bytes) → length t ≤ 1 → find (x ∷ x ∷ []) t ≡ length t
        go [] h = refl
        go (y ∷ []) h = rw (and-false (eqb x y), first_at)
        go (y ∷ z ∷ t) h = absurd (omega arith)

  skip : (n : ℕ) (s : Bytes) → suc n ≤ length s → any_pair (is_both x) (take (suc n) s) ≡ false → find (x ∷ x ∷ []) s ≡ n + find (x ∷ x ∷ []) (drop n s)
  unfolding any_pair
  skip zero s h e = sym (zero-add (find (x ∷ x ∷ []) s))
  skip (suc n) [] h e = absurd (omega arith)
  skip (suc n) (y ∷ []) h e = absurd (omega arith)
  skip (suc n) (y ∷ z ∷ s) h e =
      let k = or_both (is_both x y z) (any_pair (is_both x) (z ∷ take n s)) e in
      let all : ℕ = find (x ∷ x ∷ []) (y ∷ z ∷ s) in
      let past = first-turn (begins (x ∷ x ∷ [])) (y ∷ z ∷ s) 0 all (omega arith) refl (begins_both y z s) k.0 (zero-add all) in
      omega (arith, past, skip n (z ∷ s) (omega arith) k.1)

  pub blocks_start : (s : Bytes) → NoPairTo x s 0
  blocks_start s = record { within = omega arith; rest = zero-add (find (x ∷ x ∷ []) s) }

  pub blocks_turn : (s : Bytes) (i : ℕ) → i + 17 ≤ length s → any_pair (is_both x) (take 17 (drop i s)) ≡ false → NoPairTo x s i → NoPairTo x s (i + 16)
  blocks_turn s i h e z =
      let past = skip 16 (drop i s) (omega (arith, length-drop i s)) e in
      let on : find (x ∷ x ∷ []) (drop 16 (drop i s)) ≡ find (x ∷ x ∷ []) (drop (i + 16) s) = ap (find (x ∷ x ∷ [])) (drop-drop 16 i s) in
      record { within = omega (arith, z.within); rest = omega (arith, past, on, z.rest) }

-- ---- blocks, and the bytes behind them

pub pair_on : {x : ℕ} {s : Bytes} {i n : ℕ} → NoPairTo x s i → n ≡ find (x ∷ x ∷ []) (take (length s - i) (drop i s)) → i + n ≡ find (x ∷ x ∷ []) s
pair_on {x} {s} {i} z e = omega (arith, e, ap (find (x ∷ x ∷ [])) (drop-part s i), z.rest)

pub pair_fits : {x : ℕ} {s : Bytes} {i n : ℕ} → NoPairTo x s i → n ≡ find (x ∷ x ∷ []) (take (length s - i) (drop i s)) → i + n ≤ length s
pair_fits {x} {s} z e = omega (arith, pair_on z e, first-le (begins (x ∷ x ∷ [])) s)
