-- Laws of the bytes that may stand, of names and of attributes at the front of a text.
use mathlib.Core.Path.{◌≡◌, refl, sym, ap, ◌∙◌, subst}
use mathlib.Core.Bool.{Bool, true, false, cond, ◌&&◌}
use mathlib.Core.List.{List, [], ◌∷◌}
use Prim.Native.Nat.{ℕ, zero, suc, ◌+◌, ◌-◌, ◌≤◌, ◌<◌}
use native.Mathlib.Omega.{arith}
use native.Mathlib.Numerals.{add-one}
use lib.ListN.{length, get_or, take, drop, drop_of_length-le, length-drop}
use lib.Seq.{drop-cons}
use lib.Dec.{ltb}
use Rattle.std.proofs.lemmas.List.{take_rest}
use borrow.Author.Tests.{lt-ltb, ltb-true}
use Rattle.parts.specs.Bytes.{Bytes, b, begins}
use Rattle.parts.proofs.Laws.{and-true, begins-fits}
use Rattle.tags.specs.Names.{names, which, element_at}
use Rattle.tags.specs.Form.{ok, run, pair_at, pair_len, more_pairs, pairs_at, pairs_row}
use Rattle.tags.specs.declared.Class.TheVariants.{Value, Key}
use Rattle.tags.specs.declared.Named.{Named}
use Rattle.tags.specs.declared.Named.TheVariants.{Name}
use Rattle.std.specs.Prelude.{Option, Some, None}

-- ---- runs

module _ (p : Bytes → Bool) where
  run-first : (x : ℕ) (s : Bytes) (t : Bool) → p (x ∷ s) ≡ t → run p (x ∷ s) ≡ cond t (suc (run p s)) 0
  unfolding run
  run-first x s true e = rw (e, run)
  run-first x s false e = rw (e, run)

  -- one place more, by the test of what stands from it on
  run-cons : (s : Bytes) (i : ℕ) {t : Bool} → i < length s → t ≡ p (take (length s - i) (drop i s)) → run p (drop i s) ≡ cond t (suc (run p (drop (i + 1) s))) 0
  run-cons s i {t} h e =
      let c : drop i s ≡ get_or s i 0 ∷ drop (i + 1) s = rw add-one (drop-cons s i 0 h) in
      ap (run p) c ∙ run-first _ _ t (sym (e ∙ ap p (take_rest s i ∙ c)))

  pub run_turn : (s : Bytes) (i n : ℕ) {t : Bool} → i < length s → t ≡ p (take (length s - i) (drop i s)) → t ≡ true → i + run p (drop i s) ≡ n → i + 1 + run p (drop (i + 1) s) ≡ n
  run_turn s i n h e y inv = omega (arith, run-cons s i h (sym y ∙ e))

  pub run_stop : (s : Bytes) (i n : ℕ) {t : Bool} → i < length s → t ≡ p (take (length s - i) (drop i s)) → t ≡ false → i + run p (drop i s) ≡ n → i ≡ n
  run_stop s i n h e y inv = omega (arith, run-cons s i h (sym y ∙ e))

  pub run_end : (s : Bytes) (i n : ℕ) → i ≤ length s → length s ≤ i → i + run p (drop i s) ≡ n → length s ≡ n
  unfolding run
  run_end s i n l h inv = omega (arith, ap (run p) (drop_of_length-le s h))

  pub run-le : (s : Bytes) → run p s ≤ length s
  unfolding run
  run-le [] = omega arith
  run-le (x ∷ s) = go (p (x ∷ s)) (run-le s)
    where
      go : (t : Bool) → run p s ≤ length s → elim t as (λ t. ℕ) [ true ↦ suc (run p s) | false ↦ 0 ] ≤ suc (length s)
      go true h = omega arith
      go false h = omega arith

-- ---- names

pub which-fits : (k : ℕ) (ws : List Bytes) (s : Bytes) (n l : ℕ) → which k ws s ≡ Name n l → l ≤ length s
unfolding which
which-fits k [] s n l e = absurd (let no_way : ◌≡◌ {A = ℕ} 0 1 = cc in omega arith)
which-fits k (w ∷ ws) s n l e = go (begins w s) refl e (which-fits (suc k) ws s n l)
  where
    go : (t : Bool) → begins w s ≡ t → cond t (Name k (length w)) (which (suc k) ws s) ≡ Name n l → (which (suc k) ws s ≡ Name n l → l ≤ length s) → l ≤ length s
    go true h i more = let j : length w ≡ l = cc in omega (arith, begins-fits w s h)
    go false h i more = more i

-- ---- attributes

pub pair_got : (s : Bytes) {t : Bool} → t ≡ begins (b " ") s → t ≡ true → {s₁ : Bytes} → s₁ ≡ drop 1 s → {k : ℕ} → k ≡ run (ok Key) s₁ → 0 < k
    → {s₂ : Bytes} → s₂ ≡ drop k s₁ → {u : Bool} → u ≡ begins (b "=\"") s₂ → u ≡ true
    → {s₃ : Bytes} → s₃ ≡ drop 2 s₂ → {v : ℕ} → v ≡ run (ok Value) s₃ → {s₄ : Bytes} → s₄ ≡ drop v s₃ → {w : Bool} → w ≡ begins (b "\"") s₄ → w ≡ true → Some (k, v) ≡ pair_at s
unfolding pair_at
pair_got s e h e₁ {k} ek n e₂ f g e₃ ev e₄ i j = rw (← e, h, ← e₁, ← ek, lt-ltb 0 k n, ← e₂, ← f, g, ← e₃, ← ev, ← e₄, ← i, j)

-- what a pair at the front says
pub record Paired (s : Bytes) (k v : ℕ) : Type 0 where
  pub space : begins (b " ") s ≡ true
  pub key : k ≡ run (ok Key) (drop 1 s)
  pub some : 0 < k
  pub equals : begins (b "=\"") (drop k (drop 1 s)) ≡ true
  pub value : v ≡ run (ok Value) (drop 2 (drop k (drop 1 s)))
  pub quote : begins (b "\"") (drop v (drop 2 (drop k (drop 1 s)))) ≡ true

abbrev lengths : Option (ℕ × ℕ) → ℕ × ℕ
lengths None = (0, 0)
lengths (Some p) = p

pub pair_says : (s : Bytes) (k v : ℕ) → pair_at s ≡ Some (k, v) → Paired s k v
unfolding pair_at
pair_says s k v e = go X refl
  where
    s₁ : Bytes
    s₁ = drop 1 s

    k' : ℕ
    k' = run (ok Key) s₁

    s₃ : Bytes
    s₃ = drop 2 (drop k' s₁)

    v' : ℕ
    v' = run (ok Value) s₃

    found : Bool → Option (ℕ × ℕ)
    found x = cond x (Some (k', v')) None

    X : Bool
    X = begins (b " ") s && (ltb 0 k' && (begins (b "=\"") (drop k' s₁) && begins (b "\"") (drop v' s₃)))

    go : (x : Bool) → X ≡ x → Paired s k v
    go false h = absurd (let no_way : ◌≡◌ {A = ℕ} 0 1 = cc (ap found h) in omega arith)
    go true h =
        let same : Some (k', v') ≡ Some (k, v) = sym (ap found h) ∙ e in
        let h₁ = and-true (begins (b " ") s) _ h in
        let h₂ = and-true (ltb 0 k') _ h₁.1 in
        let h₃ = and-true (begins (b "=\"") (drop k' s₁)) _ h₂.1 in
        let ek : k' ≡ k = ap (λ (o : Option (ℕ × ℕ)). (lengths o).0) same in
        let ev : v' ≡ v = ap (λ (o : Option (ℕ × ℕ)). (lengths o).1) same in
        subst (λ (n : ℕ). Paired s n v) ek (subst (λ (n : ℕ). Paired s k' n) ev
        (record { space = h₁.0; key = refl; some = ltb-true 0 k' h₂.0; equals = h₃.0; value = refl; quote = h₃.1 }))

pub pair_fits : (s : Bytes) (k v : ℕ) → pair_at s ≡ Some (k, v) → pair_len k v ≤ length s
pair_fits s k v e =
    let p = pair_says s k v e in
    omega (
      arith,
      begins-fits _ s p.space,
      begins-fits _ _ p.equals,
      begins-fits _ _ p.quote,
      length-drop 1 s,
      length-drop k (drop 1 s),
      length-drop 2 (drop k (drop 1 s)),
      length-drop v (drop 2 (drop k (drop 1 s))),
    )

pair-nil : pair_at [] ≡ None
unfolding pair_at begins
pair-nil = refl

pairs_enough : (n m : ℕ) (s : Bytes) → length s ≤ n → length s ≤ m → pairs_at n s ≡ pairs_at m s
unfolding pairs_at
pairs_enough zero zero s h l = refl
pairs_enough zero (suc m) [] h l = rw pair-nil
pairs_enough zero (suc m) (x ∷ s) h l = absurd (omega arith)
pairs_enough (suc n) zero [] h l = rw pair-nil
pairs_enough (suc n) zero (x ∷ s) h l = absurd (omega arith)
pairs_enough (suc n) (suc m) s h l = go (pair_at s) refl (λ r hn hm. pairs_enough n m r hn hm)
  where
    go : (p : Option (ℕ × ℕ)) → pair_at s ≡ p → ((r : Bytes) → length r ≤ n → length r ≤ m → pairs_at n r ≡ pairs_at m r)
        → more_pairs (pairs_at n) s p ≡ more_pairs (pairs_at m) s p
    go None e more = refl
    go (Some (k, v)) e more =
        let fits : pair_len k v ≤ length s = pair_fits s k v e in
        rw (more (drop (pair_len k v) s) (omega (arith, length-drop (pair_len k v) s)) (omega (arith, length-drop (pair_len k v) s)))

-- the attributes, by the pair at the front
pub pairs-by : (s : Bytes) (p : Option (ℕ × ℕ)) → pair_at s ≡ p → pairs_row s ≡ more_pairs pairs_row s p
unfolding pairs_row pairs_at
pairs-by s p e = pairs_enough (length s) (suc (length s)) s (omega arith) (omega arith) ∙ rw e (go p e)
  where
    go : (p : Option (ℕ × ℕ)) → pair_at s ≡ p → more_pairs (pairs_at (length s)) s p ≡ more_pairs pairs_row s p
    go None e = refl
    go (Some (k, v)) e =
        rw (pairs_enough (length s) (length (drop (pair_len k v) s)) (drop (pair_len k v) s) (omega (arith, length-drop (pair_len k v) s)) (omega arith))

-- ---- names fit

-- a name is no longer than the text
pub named_fits : (k : ℕ) (s : Bytes) {s₁ : Bytes} {p : Named} {n l : ℕ} → s₁ ≡ drop k s → p ≡ element_at s₁ → p ≡ Name n l → l ≤ length s
unfolding element_at
named_fits k s {s₁} {p} {n} {l} e₁ ep i = omega (arith, which-fits 1 names s₁ n l (sym ep ∙ i), ap length e₁, length-drop k s)
