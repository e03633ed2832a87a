-- What is left to match from a node on: Nested, said of the nodes from i to e with a stack of awaited closes.
-- Each node takes one step of the stack, and a step loses nothing and adds nothing.
use mathlib.Core.Path.{◌≡◌, refl, sym, subst}
use mathlib.Core.Bool.{Bool, true, false}
use mathlib.Core.List.{List, [], ◌∷◌}
use mathlib.Core.Logic.{◌⊎◌, inl, inr, ⊎_elim, ◌≢◌}
use Prim.Native.Nat.{ℕ, ◌+◌, ◌≤◌, ◌<◌}
use native.Mathlib.Omega.{arith}
use lib.Dec.{ltb, eqb}
use borrow.Author.Tests.{ltb-true, ltb-false, eqb-true, eqb-false}
use Rattle.tape.specs.declared.Node.{Node}
use Rattle.nest.specs.Tape.{link_at}
use Rattle.nest.specs.Nest.{container, close, Container, Close}
use Rattle.nest.specs.Walk.{In}
use Rattle.nest.proofs.Tape.{clash, one_part}

-- closes from i to e, the nearest first
abbrev pub Awaited : List Node → ℕ → ℕ → List ℕ → Type 0
Awaited t e i [] = Unit
Awaited t e i (c ∷ s) = (i ≤ c) × (c < e) × Close t c × Awaited t e (c + 1) s

-- a container from i to e whose link is j
abbrev pub From : List Node → ℕ → ℕ → ℕ → Type 0
From t e i j = (k : ℕ) × (i ≤ k) × (k < e) × Container t k × (link_at t k ≡ j)

pub record Rest (t : List Node) (e i : ℕ) (s : List ℕ) : Type 0 where
  pub awaited : Awaited t e i s
  pub named : (j : ℕ) → i ≤ j → j < e → Close t j → In j s ⊎ From t e i j
  pub later : (k : ℕ) → i ≤ k → k < e → Container t k → (k < link_at t k) × (link_at t k < e) × Close t (link_at t k)
  pub within : (k : ℕ) → i ≤ k → k < e → Container t k → (c : ℕ) → In c s → k < c → link_at t k < c
  pub nest : (k : ℕ) → i ≤ k → k < e → Container t k → (m : ℕ) → k < m → m < e → Container t m → m < link_at t k → link_at t m < link_at t k

-- ---- numbers from i on: i, and those past it

pub at_or_past : {P : ℕ → Type 0} (i : ℕ) → P i → ((k : ℕ) → i + 1 ≤ k → P k) → (k : ℕ) → i ≤ k → P k
at_or_past {P} i a p k h = go (ltb i k) refl
  where
    go : (b : Bool) → ltb i k ≡ b → P k
    go true e = p k (omega (arith, ltb-true i k e))
    go false e = subst P (omega (arith, ltb-false i k e)) a

not_at : (P : ℕ → Type 0) (i k : ℕ) → i ≤ k → P k → (P i → ⊥) → i + 1 ≤ k
not_at P i k h p n = go (eqb k i) refl
  where
    go : (b : Bool) → eqb k i ≡ b → i + 1 ≤ k
    go true e = absurd (n (subst P (eqb-true k i e) p))
    go false e = let d : k ≢ i = eqb-false k i e in omega arith

module _ (t : List Node) (e : ℕ) where
  -- ---- the awaited closes

  awaited_from : (s : List ℕ) (i : ℕ) → Awaited t e i s → (j : ℕ) → In j s → i ≤ j
  awaited_from [] i a j h = absurd h
  awaited_from (c ∷ s) i a j (inl p) = omega arith
  awaited_from (c ∷ s) i a j (inr h) = let l : c + 1 ≤ j = awaited_from s (c + 1) a.3 j h in omega arith

  awaited-up : (s : List ℕ) (i : ℕ) → close t i ≡ false → Awaited t e i s → Awaited t e (i + 1) s
  awaited-up [] i n a = tt
  awaited-up (c ∷ s) i n a = (not_at (Close t) i c a.0 a.2 (λ h. clash h n), a.1, a.2, a.3)

  awaited_down : (s : List ℕ) (i j : ℕ) → i ≤ j → Awaited t e j s → Awaited t e i s
  awaited_down [] i j h a = tt
  awaited_down (c ∷ s) i j h a = (omega (arith, a.0), a.1, a.2, a.3)

  -- ---- a node that neither opens nor closes

  module _ (i : ℕ) (s : List ℕ) (no : container t i ≡ false) (nc : close t i ≡ false) where
    pub leaf_on : Rest t e i s → Rest t e (i + 1) s
    leaf_on r =
        record {
          awaited = awaited-up s i nc r.awaited;
          named = λ j h l c. ⊎_elim inl (λ f. inr (f.0, not_at (Container t) i f.0 f.1 f.3 (λ o. clash o no), f.2, f.3, f.4)) (r.named j (omega arith) l c);
          later = λ k h. r.later k (omega arith);
          within = λ k h. r.within k (omega arith);
          nest = λ k h. r.nest k (omega arith);
        }

    pub leaf_back : Rest t e (i + 1) s → Rest t e i s
    leaf_back r =
        record {
          awaited = awaited_down s i (i + 1) (omega arith) r.awaited;
          named = at_or_past i (λ l c. absurd (clash c nc)) (λ j h l c. ⊎_elim inl (λ f. inr (f.0, omega (arith, f.1), f.2, f.3, f.4)) (r.named j h l c));
          later = at_or_past i (λ l o. absurd (clash o no)) r.later;
          within = at_or_past i (λ l o. absurd (clash o no)) r.within;
          nest = at_or_past i (λ l o. absurd (clash o no)) r.nest;
        }

  -- ---- a close: the nearest that is awaited

  module _ (i : ℕ) (cl : Close t i) where
    no_container : Container t i → ⊥
    no_container o = clash cl (one_part t i o)

    pub close-none : i < e → Rest t e i [] → ⊥
    close-none l r = ⊎_elim (λ z. z) (λ f. omega (arith, r.later f.0 f.1 f.2 f.3, f.4)) (r.named i (omega arith) l cl)

    pub close-first : {c : ℕ} {s : List ℕ} → i < e → Rest t e i (c ∷ s) → c ≡ i
    close-first {c} {s} l r = ⊎_elim awaits (λ f. absurd (omega (arith, r.later f.0 f.1 f.2 f.3, f.4))) (r.named i (omega arith) l cl)
      where
        awaits : (i ≡ c) ⊎ In i s → c ≡ i
        awaits (inl p) = sym p
        awaits (inr h) = absurd (omega (arith, r.awaited.0, awaited_from s (c + 1) r.awaited.3 i h))

    pub close_on : (s : List ℕ) → Rest t e i (i ∷ s) → Rest t e (i + 1) s
    close_on s r =
        record {
          awaited = r.awaited.3;
          named = λ j h l c.
              ⊎_elim (⊎_elim (λ p. absurd (omega arith)) inl)
              (λ f. inr (f.0, not_at (Container t) i f.0 f.1 f.3 no_container, f.2, f.3, f.4))
              (r.named j (omega arith) l c);
          later = λ k h. r.later k (omega arith);
          within = λ k h l o c a. r.within k (omega arith) l o c (inr a);
          nest = λ k h. r.nest k (omega arith);
        }

    pub close_back : (s : List ℕ) → i < e → Rest t e (i + 1) s → Rest t e i (i ∷ s)
    close_back s l r =
        record {
          awaited = (omega arith, l, cl, r.awaited);
          named = at_or_past i (λ l c. inl (inl refl)) (λ j h l c. ⊎_elim (λ a. inl (inr a)) (λ f. inr (f.0, omega (arith, f.1), f.2, f.3, f.4)) (r.named j h l c));
          later = at_or_past i (λ l o. absurd (no_container o)) r.later;
          within = at_or_past i (λ l o. absurd (no_container o)) (λ k h l o c. ⊎_elim (λ p g. absurd (omega arith)) (r.within k h l o c));
          nest = at_or_past i (λ l o. absurd (no_container o)) r.nest;
        }

  -- ---- a container: its link is awaited first

  module _ (i : ℕ) (op : Container t i) (s : List ℕ) where
    pub open_on : i < e → Rest t e i s → Rest t e (i + 1) (link_at t i ∷ s)
    open_on l r =
        let mine = r.later i (omega arith) l op in
        record {
          awaited = (omega (arith, mine.0), mine.1, mine.2, below s r.awaited (r.within i (omega arith) l op));
          named = λ j h l c. ⊎_elim (λ a. inl (inr a)) (split j) (r.named j (omega arith) l c);
          later = λ k h. r.later k (omega arith);
          within = λ k h l o c. ⊎_elim
              (λ p g. subst (λ (z : ℕ). link_at t k < z) (sym p) (r.nest i (omega arith) (omega arith) op k (omega arith) l o (subst (λ (z : ℕ). k < z) p g)))
              (r.within k (omega arith) l o c);
          nest = λ k h. r.nest k (omega arith);
        }
      where
        below : (s : List ℕ) → Awaited t e i s → ((c : ℕ) → In c s → i < c → link_at t i < c) → Awaited t e (link_at t i + 1) s
        below [] a w = tt
        below (c ∷ s) a w = (omega (arith, w c (inl refl) (omega (arith, not_at (Close t) i c a.0 a.2 (λ h. clash h (one_part t i op))))), a.1, a.2, a.3)

        split : (j : ℕ) → From t e i j → In j (link_at t i ∷ s) ⊎ From t e (i + 1) j
        split j f = at_or_past {P = λ k. k < e → Container t k → link_at t k ≡ j → In j (link_at t i ∷ s) ⊎ From t e (i + 1) j} i
            (λ l o p. inl (inl (sym p))) (λ k h l o p. inr (k, h, l, o, p)) f.0 f.1 f.2 f.3 f.4

    pub open_back : i < e → Rest t e (i + 1) (link_at t i ∷ s) → Rest t e i s
    open_back l r =
        let a = r.awaited in
        record {
          awaited = awaited_down s i (link_at t i + 1) (omega (arith, a.0)) a.3;
          named = at_or_past i (λ l c. absurd (clash c (one_part t i op))) (λ j h l c.
              ⊎_elim (⊎_elim (λ p. inr (i, omega arith, omega arith, op, sym p)) inl)
              (λ f. inr (f.0, omega (arith, f.1), f.2, f.3, f.4)) (r.named j h l c));
          later = at_or_past i (λ l o. (omega (arith, a.0), a.1, a.2)) r.later;
          within = at_or_past i (λ l o c h g. omega (arith, awaited_from s (link_at t i + 1) a.3 c h)) (λ k h l o c g. r.within k h l o c (inr g));
          nest = at_or_past i (λ l o m g d u. r.within m (omega arith) d u (link_at t i) (inl refl)) r.nest;
        }

  -- ---- the end

  pub end_none : (s : List ℕ) → Rest t e e s → s ≡ []
  end_none [] r = refl
  end_none (c ∷ s) r = absurd (omega (arith, r.awaited.0, r.awaited.1))

  pub end_back : Rest t e e []
  end_back =
      record {
        awaited = tt;
        named = λ j h l. absurd (omega arith);
        later = λ k h l. absurd (omega arith);
        within = λ k h l. absurd (omega arith);
        nest = λ k h l. absurd (omega arith);
      }
