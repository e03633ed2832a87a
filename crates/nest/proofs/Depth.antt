-- On a tape that is sound a walk that starts with depth 64 has depth left at every container.
use mathlib.Core.Path.{◌≡◌, sym, ◌∙◌, subst}
use mathlib.Core.Bool.{false}
use mathlib.Core.List.{List, [], ◌∷◌}
use mathlib.Core.Logic.{⊎_elim}
use Prim.Native.Nat.{ℕ, zero, suc, ◌+◌, ◌≤◌, ◌<◌}
use native.Mathlib.Omega.{arith}
use Rattle.tape.specs.declared.Node.{Node}
use Rattle.nest.specs.Tape.{kind_at, link_at}
use Rattle.nest.specs.Nest.{container, close, Container, Close, count, Nested, Sound}
use Rattle.nest.specs.Walk.{past, Tiles, In}
use Rattle.nest.proofs.Tape.{clash, opens_not, close-not, one_part, close-inside, count_yes, count_no}
use Rattle.nest.proofs.Walk.{past_open, past-leaf, past_forward, by_test, by_part, children-row, tiles_in}

-- h containers are open before node i
abbrev pub Open : List Node → ℕ → ℕ → Type 0
Open t i h = count (container t) i ≡ count (close t) i + h

pub depth_left : (t : List Node) → Sound t → (k h d : ℕ) → Container t k → Open t k h → h + d ≡ 64 → 0 < d
depth_left t z k h d o e s =
    let link = z.nested.later k o in
    by_depth (λ n. z.shallow (k + 1, omega (arith, link.0, close-inside t (link_at t k) link.1), omega (arith, count_yes (container t) k o, count_no (close t) k (one_part t k o))))
  where
    by_depth : (d ≡ 0 → ⊥) → 0 < d
    by_depth n = omega arith

module _ (t : List Node) (z : Nested t) where
  -- what a row of siblings opens it closes
  tiles_even : (n : ℕ) → ((a h : ℕ) → past t a ≤ n + a → close t a ≡ false → Open t a h → Open t (past t a) h)
      → (ks : List ℕ) (a b h : ℕ) → Tiles t a b ks → b ≤ n + a → Open t a h → Open t b h × ((c : ℕ) → In c ks → Open t c h)
  tiles_even n f [] a b h e s o = (subst (λ (i : ℕ). Open t i h) e o, λ c i. absurd i)
  tiles_even n f (k ∷ ks) a b h e s o =
      let le = (tiles_in t ks (past t a) b e.3).0 in
      let r = tiles_even n f ks (past t a) b h e.3 (omega (arith, e.2)) (f a h (omega arith) e.1 o) in
      (r.0, λ c i. ⊎_elim {C = Open t c h} (λ p. subst (λ (i : ℕ). Open t i h) (sym (p ∙ e.0)) o) (r.1 c) i)

  open_next : (k h : ℕ) → Container t k → Open t k h → Open t (k + 1) (h + 1)
  open_next k h o e = omega (arith, count_yes (container t) k o, count_no (close t) k (one_part t k o))

  node_even : (n a h : ℕ) → past t a ≤ n + a → close t a ≡ false → Open t a h → Open t (past t a) h
  node_even zero a h s c e = absurd (omega (arith, past_forward t z a))
  node_even (suc n) a h s c e = by_part t a (around (node_even n)) (λ o. subst (λ (i : ℕ). Open t i h) (sym (past-leaf t a o)) (omega (arith, count_no (container t) a o, count_no (close t) a c)))
    where
      around : ((a h : ℕ) → past t a ≤ n + a → close t a ≡ false → Open t a h → Open t (past t a) h) → Container t a → Open t (past t a) h
      around f o =
          let end = link_at t a in
          let shut : Close t end = (z.later a o).1 in
          let none : container t end ≡ false = by_test (container t end) (λ u. clash shut (one_part t end u)) in
          let row = children-row t z a o in
          let inner = tiles_even n f row.nodes (a + 1) end (h + 1) row.tiles (omega (arith, past_open t a o)) (open_next a h o e) in
          subst (λ (i : ℕ). Open t i h) (sym (past_open t a o)) (omega (arith, inner.0, count_yes (close t) end shut, count_no (container t) end none))

  -- one more is open before each of the siblings in a container
  pub child_open : (k h : ℕ) → Container t k → Open t k h → (ks : List ℕ) → Tiles t (k + 1) (link_at t k) ks → (c : ℕ) → In c ks → Open t c (h + 1)
  child_open k h o e ks s c i =
      (tiles_even (link_at t k) (node_even (link_at t k)) ks (k + 1) (link_at t k) (h + 1) s (omega arith) (open_next k h o e)).1 c i

  -- none is open before each of those in Root
  pub root_open : kind_at t 0 ≡ 0 → (ks : List ℕ) → Tiles t 1 (link_at t 0) ks → (c : ℕ) → In c ks → Open t c 0
  unfolding count
  root_open r ks s c i =
      (tiles_even (link_at t 0) (node_even (link_at t 0)) ks 1 (link_at t 0) 0 s (omega arith) first).1 c i
    where
      none : close t 0 ≡ false
      none = close-not t 0 (λ e. omega arith) (λ e. omega arith)

      first : Open t 1 0
      first = omega (arith, count_no (container t) 0 (opens_not t 0 (λ e. omega arith)), count_no (close t) 0 none)
