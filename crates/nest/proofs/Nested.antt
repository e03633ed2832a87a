-- A tape nests if Root ends as it must and nothing is left to match from node 0 to Root's end.
use mathlib.Core.Path.{◌≡◌, refl, sym, ap, ◌∙◌}
use mathlib.Core.Bool.{Bool, true, false}
use mathlib.Core.List.{List, []}
use mathlib.Core.Logic.{inl, inr, ⊎_elim, ◌≢◌}
use Prim.Native.Nat.{ℕ, ◌+◌, ◌<◌}
use native.Mathlib.Omega.{arith}
use lib.ListN.{length}
use lib.Dec.{ltb}
use borrow.Author.Tests.{ltb-true, ltb-false}
use Rattle.tape.specs.declared.Node.{Node}
use Rattle.nest.specs.Tape.{kind_at, link_at}
use Rattle.nest.specs.Nest.{Container, Close, OfRoot, OfOne, RootEnds, Nested}
use Rattle.nest.proofs.Tape.{kind_opens, close_5, opens-inside, close-inside}
use Rattle.nest.proofs.Rest.{From, Rest}

-- by which of two numbers is the greater
pub order : {P : Type 0} (k m : ℕ) → (k < m → P) → (m < k → P) → (k ≡ m → P) → P
order {P} k m f g h = go (ltb k m) (ltb m k) refl refl
  where
    go : (a b : Bool) → ltb k m ≡ a → ltb m k ≡ b → P
    go true b p q = f (ltb-true k m p)
    go false true p q = g (ltb-true m k q)
    go false false p q = h (omega (arith, ltb-false k m p, ltb-false m k q))

module _ (t : List Node) where
  -- ---- of a tape that nests

  module _ (n : Nested t) where
    -- no two containers have one link
    pub once : (k m : ℕ) → Container t k → Container t m → link_at t k ≡ link_at t m → k ≡ m
    once k m o u e =
        ⊎_elim (λ a. absurd (a.1 k o refl)) (λ a. a.1.3 k o refl ∙ sym (a.1.3 m u (sym e)))
        (n.named (link_at t k) (n.later k o).1)

    -- a container that starts in another ends in it
    pub ends_in : (k m : ℕ) → Container t k → Container t m → k < m → m < link_at t k → link_at t m < link_at t k
    ends_in k m o u h l =
        order (link_at t m) (link_at t k) (λ p. p) (λ p. absurd (n.apart k m o u (h, l, p)))
        (λ p. absurd (omega (arith, once k m o u (sym p))))

    -- a container ends before Root does
    pub before_root : (k : ℕ) → Container t k → link_at t k < link_at t 0
    before_root k o = ⊎_elim (λ p. omega (arith, close-inside t (link_at t k) (n.later k o).1)) last n.root
      where
        last : (link_at t 0 + 1 ≡ length t) × (kind_at t (link_at t 0) ≡ 5) → link_at t k < link_at t 0
        last p =
            let d : link_at t k ≢ link_at t 0 =
            ⊎_elim (λ a. a.1 k o) (λ a. absurd (a.0 refl)) (n.named (link_at t 0) (close_5 t (link_at t 0) p.1)) in
            omega (arith, p.0, close-inside t (link_at t k) (n.later k o).1)

    pub rest_of : Rest t (link_at t 0) 0 []
    rest_of =
        record {
          awaited = tt;
          named = λ j h l c. ⊎_elim (λ a. absurd (omega (arith, a.0)))
              (λ a. let one = a.1 in inr (one.0, omega arith, omega (arith, (n.later one.0 one.1).0, one.2), one.1, one.2)) (n.named j c);
          later = λ k h l o. ((n.later k o).0, before_root k o, (n.later k o).1);
          within = λ k h l o c a. absurd a;
          nest = λ k h l o m g d u. ends_in k m o u g;
        }

  -- ---- of a tape whose Root ends as it must

  pub opens_before : RootEnds t → (k : ℕ) → Container t k → k < link_at t 0
  opens_before root k o = ⊎_elim (λ p. omega (arith, opens-inside t k o)) last root
    where
      last : (link_at t 0 + 1 ≡ length t) × (kind_at t (link_at t 0) ≡ 5) → k < link_at t 0
      last p =
          let d : k ≢ link_at t 0 = λ q. absurd (omega (arith, kind_opens t k o, ap (kind_at t) q, p.1)) in
          omega (arith, p.0, opens-inside t k o)

  -- ---- of a tape of which nothing is left to match

  module _ (root : RootEnds t) (r : Rest t (link_at t 0) 0 []) where
    same-link : (k m : ℕ) → Container t k → Container t m → link_at t m ≡ link_at t k → m < k → ⊥
    same-link k m o u p h =
        omega (arith, r.nest m (omega arith) (opens_before root m u) u k h (opens_before root k o) o (omega (arith, (r.later k (omega arith) (opens_before root k o) o).0)))

    of_one : (j : ℕ) → j < link_at t 0 → Close t j → OfOne t j
    of_one j l c =
        let f : From t (link_at t 0) 0 j = ⊎_elim (λ a. absurd a) (λ f. f) (r.named j (omega arith) l c) in (
          λ p. omega arith,
          (f.0, f.3, f.4, λ m u p. order m f.0 (λ h. absurd (same-link f.0 m f.3 u (p ∙ sym f.4) h)) (λ h. absurd (same-link m f.0 u f.3 (f.4 ∙ sym p) h)) (λ q. q)),
        )

    of_root : (j : ℕ) → link_at t 0 ≡ j → OfRoot t j
    of_root j p = (p, λ k o q. omega (arith, (r.later k (omega arith) (opens_before root k o) o).1))

    pub nested_of : Nested t
    nested_of =
        record {
          later = λ i o. let a = r.later i (omega arith) (opens_before root i o) o in (a.0, a.2);
          named = λ j c. order j (link_at t 0) (λ h. inr (of_one j h c))
              (λ h. absurd (⊎_elim {C = ⊥} (λ p. omega (arith, close-inside t j c)) (λ p. omega (arith, p.0, close-inside t j c)) root))
              (λ p. inl (of_root j (sym p)));
          apart = λ i k o u x. omega (arith, x.0, x.1, x.2, r.nest i (omega arith) (opens_before root i o) o k x.0 (opens_before root k u) u x.1);
          root = root;
        }
