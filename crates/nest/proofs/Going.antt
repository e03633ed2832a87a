-- A run of the stack over a tape: where it stands, its steps and its answers.
use mathlib.Core.Path.{◌≡◌, refl, sym, subst}
use mathlib.Core.List.{List, [], ◌∷◌}
use mathlib.Core.Logic.{⊎_elim}
use Prim.Native.Nat.{ℕ, ◌+◌, ◌≤◌, ◌<◌}
use native.Mathlib.Omega.{arith}
use lib.ListN.{length}
use borrow.Author.Count.{below_more}
use Rattle.tape.specs.declared.Node.{Node}
use Rattle.nest.specs.Tape.{link_at}
use Rattle.nest.specs.Nest.{container, close, count, DeepAt, RootEnds, Nested, Sound}
use Rattle.nest.specs.declared.Part.TheVariants.{Opens, Closes, Leaf}
use Rattle.nest.proofs.Tape.{Plays, close-inside, count_yes, count_no}
use Rattle.nest.proofs.Rest.{Rest, leaf_on, leaf_back, close-none, close-first, close_on, close_back, open_on, open_back, end_none, end_back}
use Rattle.nest.proofs.Nested.{order, rest_of, nested_of}

-- the closes s are awaited before node i, no node before it is too deep, and the rest is left to match
pub record Going (t : List Node) (i : ℕ) (s : List ℕ) : Type 0 where
  pub on : Nested t → Rest t (link_at t 0) i s
  pub back : Rest t (link_at t 0) i s → Nested t
  pub height : count (container t) i ≡ count (close t) i + length s
  pub fits : length s ≤ 64
  pub low : (k : ℕ) → k < i → DeepAt t k → ⊥
  pub short : i ≤ link_at t 0

pub going_start : {t : List Node} → RootEnds t → Going t 0 []
unfolding count
going_start {t} root =
    record {
      on = rest_of t;
      back = nested_of t root;
      height = refl;
      fits = omega arith;
      low = λ k h. absurd (omega arith);
      short = omega arith;
    }

module _ {t : List Node} {i : ℕ} (l : i < link_at t 0) where
  low_more : {s : List ℕ} → Going t i s → (k : ℕ) → k < i + 1 → DeepAt t k → ⊥
  low_more g = below_more _ _ g.low (λ d. omega (arith, g.height, g.fits))

  -- ---- the steps

  pub going_leaf : {s : List ℕ} → Going t i s → Plays t i Leaf → Going t (i + 1) s
  going_leaf {s} g p =
      record {
        on = λ z. leaf_on t _ i s p.0 p.1 (g.on z);
        back = λ r. g.back (leaf_back t _ i s p.0 p.1 r);
        height = omega (arith, g.height, count_no (container t) i p.0, count_no (close t) i p.1);
        fits = g.fits;
        low = low_more g;
        short = omega arith;
      }

  pub going_open : {s : List ℕ} {m : ℕ} → Going t i s → Plays t i (Opens m) → length s < 64 → Going t (i + 1) (m ∷ s)
  going_open {s} {m} g p h =
      let awaits : (k : ℕ) → Type 0 = λ k. Rest t (link_at t 0) (i + 1) (k ∷ s) in
      record {
        on = λ z. subst awaits (sym p.2) (open_on t _ i p.0 s l (g.on z));
        back = λ r. g.back (open_back t _ i p.0 s l (subst awaits p.2 r));
        height = omega (arith, g.height, count_yes (container t) i p.0, count_no (close t) i p.1);
        fits = h;
        low = low_more g;
        short = omega arith;
      }

  pub going_close : {s : List ℕ} {c : ℕ} → Going t i (c ∷ s) → Plays t i Closes → c ≡ i → Going t (i + 1) s
  going_close {s} g p e =
      let awaits : (k : ℕ) → Type 0 = λ k. Rest t (link_at t 0) i (k ∷ s) in
      record {
        on = λ z. close_on t _ i p.1 s (subst awaits e (g.on z));
        back = λ r. g.back (subst awaits (sym e) (close_back t _ i p.1 s l r));
        height = omega (arith, g.height, count_no (container t) i p.0, count_yes (close t) i p.1);
        fits = omega (arith, g.fits);
        low = low_more g;
        short = omega arith;
      }

  -- ---- the answers on the way

  pub no_room : {s : List ℕ} {m : ℕ} → Going t i s → Plays t i (Opens m) → length s ≡ 64 → Sound t → ⊥
  no_room g p h f =
      let link = (g.on f.nested).later i (omega arith) l p.0 in
      f.shallow (
        i + 1,
        omega (arith, link.0, close-inside t (link_at t i) link.2),
        omega (arith, g.height, count_yes (container t) i p.0, count_no (close t) i p.1),
      )

  pub none-awaited : Going t i [] → Plays t i Closes → Sound t → ⊥
  none-awaited g p f = close-none t _ i p.1 l (g.on f.nested)

  pub other-awaited : {s : List ℕ} {c : ℕ} → Going t i (c ∷ s) → Plays t i Closes → (c ≡ i → ⊥) → Sound t → ⊥
  other-awaited g p d f = d (close-first t _ i p.1 l (g.on f.nested))

-- ---- the answers at the end

module _ {t : List Node} {i : ℕ} (e : i ≡ link_at t 0) where
  pub all_matched : Going t i [] → Sound t
  all_matched g =
      let z : Nested t = g.back (subst (λ (j : ℕ). Rest t (link_at t 0) j []) (sym e) (end_back t (link_at t 0))) in
      record {
        nested = z;
        shallow = λ d. order d.0 i (λ h. g.low d.0 h d.2)
            (λ h. ⊎_elim {C = ⊥} (λ p. omega (arith, d.1)) (λ p. omega (arith, d.1, p.0)) z.root)
            (λ h. omega (arith, subst (DeepAt t) h d.2, g.height));
      }

  pub one_awaited : {s : List ℕ} {c : ℕ} → Going t i (c ∷ s) → Sound t → ⊥
  one_awaited {s} {c} g f =
      let none : ◌≡◌ {A = List ℕ} (c ∷ s) [] = end_none t _ (c ∷ s) (subst (λ (j : ℕ). Rest t (link_at t 0) j (c ∷ s)) e (g.on f.nested)) in
      let z : ◌≡◌ {A = ℕ} 0 1 = cc in
      omega arith
