-- On a tape that nests a row of siblings covers the nodes between a container, or Root, and its end.
use mathlib.Core.Path.{◌≡◌, refl, sym, ap, ◌∙◌, subst}
use mathlib.Core.Bool.{Bool, true, false, ◌||◌, or-true}
use mathlib.Core.List.{List, [], ◌∷◌}
use mathlib.Core.Logic.{inl, inr, ⊎_elim}
use Prim.Native.Nat.{ℕ, zero, suc, ◌+◌, ◌≤◌, ◌<◌}
use native.Mathlib.Omega.{arith}
use lib.ListN.{length}
use lib.Dec.{leb}
use borrow.Author.Tests.{le-leb, lt-leb}
use Rattle.tape.specs.declared.Node.{Node}
use Rattle.nest.specs.Tape.{kind_at, link_at}
use Rattle.nest.specs.Nest.{container, close, Container, Close, Nested}
use Rattle.nest.specs.Walk.{past, Tiles, Row, In}
use Rattle.nest.proofs.Tape.{clash, one_part, opens_not, close_5, close-inside}
use Rattle.nest.proofs.Nested.{order, ends_in, before_root}

-- a row of siblings ends before a close and at the tape's end
unfoldable pub stops : List Node → ℕ → Bool
stops t a = leb (length t) a || close t a

-- the row from a on, at most n
unfoldable row : List Node → ℕ → ℕ → List ℕ
row t zero a = []
row t (suc n) a = elim (stops t a) [ true ↦ [] | false ↦ a ∷ row t n (past t a) ]

pub past_open : (t : List Node) (a : ℕ) → Container t a → past t a ≡ link_at t a + 1
unfolding past
past_open t a o = rw o

pub past-leaf : (t : List Node) (a : ℕ) → container t a ≡ false → past t a ≡ a + 1
unfolding past
past-leaf t a o = rw o

-- a test that cannot pass fails
pub by_test : (b : Bool) → (b ≡ true → ⊥) → b ≡ false
by_test true n = absurd (n refl)
by_test false n = refl

-- by whether node a is a container
pub by_part : {P : Type 0} (t : List Node) (a : ℕ) → (Container t a → P) → (container t a ≡ false → P) → P
by_part {P} t a f g = go (container t a) refl
  where
    go : (b : Bool) → container t a ≡ b → P
    go true e = f e
    go false e = g e

stops-close : (t : List Node) (a : ℕ) → Close t a → stops t a ≡ true
unfolding stops
stops-close t a c = rw c (or-true (leb (length t) a))

stops_end : (t : List Node) (a : ℕ) → length t ≤ a → stops t a ≡ true
unfolding stops
stops_end t a h = rw (le-leb _ _ h)

close_of : (t : List Node) (a : ℕ) → a < length t → stops t a ≡ true → Close t a
unfolding stops
close_of t a h s = rw (lt-leb _ _ h) at s

open_of : (t : List Node) (a : ℕ) → stops t a ≡ false → close t a ≡ false
unfolding stops
open_of t a e = go (leb (length t) a) (close t a) e
  where
    go : (x y : Bool) → (x || y) ≡ false → y ≡ false
    go true y e = absurd (clash refl e)
    go false y e = e

pub past_forward : (t : List Node) → Nested t → (k : ℕ) → k + 1 ≤ past t k
past_forward t z k =
    by_part t k (λ o. omega (arith, past_open t k o, (z.later k o).0)) (λ o. omega (arith, past-leaf t k o))

-- what lies between k and b is closed in itself
record Span (t : List Node) (k b : ℕ) : Type 0 where
  ends : stops t b ≡ true
  short : b ≤ length t
  closes : (j : ℕ) → k < j → j < b → Close t j → (m : ℕ) × (k < m) × (m < j) × Container t m × (link_at t m ≡ j)
  within : (m : ℕ) → k < m → m < b → Container t m → (m < link_at t m) × (link_at t m < b) × Close t (link_at t m)
  nest : (m n : ℕ) → Container t m → Container t n → m < n → n < link_at t m → link_at t n < link_at t m

module _ (t : List Node) (z : Nested t) where
  span_of : (k : ℕ) → Container t k → Span t k (link_at t k)
  span_of k o =
      record {
        ends = stops-close t (link_at t k) (z.later k o).1;
        short = omega (arith, close-inside t (link_at t k) (z.later k o).1);
        closes = λ j h l c. ⊎_elim (λ r. absurd (omega (arith, r.0, before_root t z k o))) (λ r. one j h l r.1.0 r.1.1 r.1.2) (z.named j c);
        within = λ m h l u. ((z.later m u).0, ends_in t z k m o u h l, (z.later m u).1);
        nest = λ m n u v. ends_in t z m n u v;
      }
    where
      one : (j : ℕ) → k < j → j < link_at t k → (m : ℕ) → Container t m → link_at t m ≡ j → (m : ℕ) × (k < m) × (m < j) × Container t m × (link_at t m ≡ j)
      one j h l m u e =
          order k m (λ g. (m, g, omega (arith, (z.later m u).0), u, e)) (λ g. absurd (omega (arith, ends_in t z m k u o g (omega arith))))
          (λ g. absurd (omega (arith, ap (link_at t) g)))

  span-root : container t 0 ≡ false → Span t 0 (link_at t 0)
  span-root n =
      record {
        ends = ⊎_elim (λ p. stops_end t (link_at t 0) (omega arith)) (λ p. stops-close t (link_at t 0) (close_5 t (link_at t 0) p.1)) z.root;
        short = ⊎_elim (λ p. omega arith) (λ p. omega (arith, p.0)) z.root;
        closes = λ j h l c. ⊎_elim (λ x. absurd (omega (arith, x.0))) (λ x. one j x.1.0 x.1.1 x.1.2) (z.named j c);
        within = λ m h l u. ((z.later m u).0, before_root t z m u, (z.later m u).1);
        nest = λ m k u v. ends_in t z m k u v;
      }
    where
      one : (j m : ℕ) → Container t m → link_at t m ≡ j → (m : ℕ) × (0 < m) × (m < j) × Container t m × (link_at t m ≡ j)
      one j m u e = order 0 m (λ g. (m, g, omega (arith, (z.later m u).0), u, e)) (λ g. absurd (omega arith)) (λ g. absurd (clash (subst (Container t) (sym g) u) n))

-- ---- the siblings tile a span

module _ (t : List Node) (k b : ℕ) (s : Span t k b) where
  -- a stands in no container that starts past k
  abbrev Level : ℕ → Type 0
  Level a = (m : ℕ) → k < m → m < a → Container t m → link_at t m < a

  past_in : (a : ℕ) → k < a → a < b → (a < past t a) × (past t a ≤ b)
  past_in a h l =
      by_part t a (λ o. omega (arith, past_open t a o, (s.within a h l o).0, (s.within a h l o).1)) (λ o. omega (arith, past-leaf t a o))

  level_past : (a : ℕ) → k < a → a < b → Level a → Level (past t a)
  level_past a h l v m g d u =
      order m a (λ e. omega (arith, v m g e u, (past_in a h l).0)) (λ e. by_part t a (inner e) (λ o. absurd (omega (arith, past-leaf t a o))))
      (λ e. omega (arith, past_open t a (subst (Container t) e u), ap (link_at t) e))
    where
      inner : a < m → Container t a → link_at t m < past t a
      inner e o =
          order m (link_at t a) (λ f. omega (arith, s.nest a m o u e f, past_open t a o)) (λ f. absurd (omega (arith, past_open t a o)))
          (λ f. absurd (clash (s.within a h l o).2 (one_part t (link_at t a) (subst (Container t) f u))))

  -- a level place before the end is no close
  goes_on : (a : ℕ) → k < a → a < b → Level a → stops t a ≡ true → ⊥
  goes_on a h l v e =
      let m = s.closes a h l (close_of t a (omega (arith, s.short)) e) in
      omega (arith, m.4, v m.0 m.1 m.2 m.3)

  tile : (n a : ℕ) → k < a → a ≤ b → Level a → b ≤ n + a → Tiles t a b (row t n a)
  unfolding row
  tile zero a h l v f = omega arith
  tile (suc n) a h l v f = go (stops t a) refl (tile n (past t a))
    where
      go : (x : Bool) → stops t a ≡ x
          → (k < past t a → past t a ≤ b → Level (past t a) → b ≤ n + past t a → Tiles t (past t a) b (row t n (past t a)))
          → Tiles t a b (elim x [ true ↦ [] | false ↦ a ∷ row t n (past t a) ])
      go true e r = order a b (λ g. absurd (goes_on a h g v e)) (λ g. absurd (omega arith)) (λ g. g)
      go false e r =
          order a b
          (λ g. let p = past_in a h g in (refl, open_of t a e, p.0, r (omega (arith, p.0)) p.1 (level_past a h g v) (omega (arith, p.0))))
          (λ g. absurd (omega arith)) (λ g. absurd (clash s.ends (sym (ap (stops t) g) ∙ e)))

  row_of : k < b → Row t (k + 1) b
  row_of h =
      record {
        nodes = row t (length t) (k + 1);
        tiles = tile (length t) (k + 1) (omega arith) (omega arith) (λ m g d. absurd (omega arith)) (omega (arith, s.short));
      }

root-leaf : (t : List Node) → kind_at t 0 ≡ 0 → container t 0 ≡ false
root-leaf t r = opens_not t 0 (λ e. omega arith)

-- siblings cover what lies between a container and its link
pub children-row : (t : List Node) → Nested t → (k : ℕ) → Container t k → Row t (k + 1) (link_at t k)
children-row t z k o = row_of t k (link_at t k) (span_of t z k o) (z.later k o).0

-- and what lies between Root and its end
pub root-row : (t : List Node) → Nested t → kind_at t 0 ≡ 0 → 0 < length t → Row t 1 (link_at t 0)
root-row t z r h = row_of t 0 (link_at t 0) (span-root t z (root-leaf t r)) (⊎_elim {C = 0 < link_at t 0} (λ p. omega arith) (λ p. last p.1) z.root)
  where
    last : kind_at t (link_at t 0) ≡ 5 → 0 < link_at t 0
    last p = order 0 (link_at t 0) (λ g. g) (λ g. absurd (omega arith)) (λ g. absurd (omega (arith, ap (kind_at t) g)))

-- ---- what tiles give

-- a tile starts and ends between the ends
pub tiles_in : (t : List Node) (ks : List ℕ) (a b : ℕ) → Tiles t a b ks → (a ≤ b) × ((k : ℕ) → In k ks → a ≤ k)
tiles_in t [] a b e = (omega arith, λ k i. absurd i)
tiles_in t (x ∷ ks) a b e =
    let r = tiles_in t ks (past t a) b e.3 in
    (omega (arith, e.2, r.0), λ k i. ⊎_elim {C = a ≤ k} (λ p. omega (arith, e.0)) (λ i. omega (arith, e.2, r.1 k i)) i)

-- each node from a to b is in exactly one tile
abbrev pub InOne : List Node → List ℕ → ℕ → Type 0
InOne t ks j =
    (k : ℕ) × In k ks × (k ≤ j) × (j < past t k) × ((m : ℕ) → In m ks → m ≤ j → j < past t m → m ≡ k)

pub in_one : (t : List Node) (ks : List ℕ) (a b j : ℕ) → Tiles t a b ks → a ≤ j → j < b → InOne t ks j
in_one t [] a b j e h l = absurd (omega arith)
in_one t (x ∷ ks) a b j e h l =
    order j (past t a) first (λ g. next (in_one t ks (past t a) b j e.3 (omega arith) l) (omega arith))
    (λ g. next (in_one t ks (past t a) b j e.3 (omega arith) l) (omega arith))
  where
    same : past t x ≡ past t a
    same = ap (past t) e.0

    first : j < past t a → InOne t (x ∷ ks) j
    first g = (
      x,
      inl refl,
      omega (arith, e.0),
      omega (arith, same),
      λ m i u v. ⊎_elim (λ p. p) (λ i. absurd (omega (arith, (tiles_in t ks (past t a) b e.3).1 m i))) i,
    )

    next : InOne t ks j → past t a ≤ j → InOne t (x ∷ ks) j
    next r g = (
      r.0,
      inr r.1,
      r.2,
      r.3,
      λ m i u v. ⊎_elim (λ p. absurd (omega (arith, same, ap (past t) p))) (λ i. r.4 m i u v) i,
    )
