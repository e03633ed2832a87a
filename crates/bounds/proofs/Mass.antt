-- How many nodes a node spans, and what they may cost by the depth that is left.
use mathlib.Core.Path.{◌≡◌, refl, ap}
use mathlib.Core.Bool.{Bool, true, false, cond}
use mathlib.Core.List.{List, [], ◌∷◌}
use Prim.Native.Nat.{ℕ, zero, suc, ◌+◌, ◌*◌, ◌-◌, ◌≤◌, ◌<◌}
use native.Mathlib.Omega.{arith}
use lib.ListN.{length}
use lib.Dec.{eqb}
use borrow.Author.Tests.{ne_eqb}
use Rattle.parts.specs.Bytes.{Bytes}
use Rattle.tape.specs.File.{Tape, tape_of}
use Rattle.tape.specs.Tree.{children, up_to, without, from_first}
use Rattle.nest.specs.Tape.{link_at}
use Rattle.nest.specs.Nest.{Container}
use Rattle.nest.specs.Walk.{past, Tiles}
use Rattle.nest.proofs.Walk.{past_open, by_part, past_forward}
use Rattle.admit.specs.Refusal.{Kept₇}
use Rattle.admit.proofs.Gives.{leaf-children, children_cover, root_cover}

-- ---- costs

-- what so many nodes may cost where so many containers may be entered
unfoldable pub cost : ℕ → ℕ → ℕ
cost zero n = 8000000000 * n
cost (suc d) n = 8000000000 * n + cost d n

pub cost-add : (d a z : ℕ) → cost d (a + z) ≡ cost d a + cost d z
unfolding cost
cost-add zero a z = omega arith
cost-add (suc d) a z = omega (arith, cost-add d a z)

pub cost_least : (d n : ℕ) → 8000000000 * n ≤ cost d n
unfolding cost
cost_least zero n = omega arith
cost_least (suc d) n = omega arith

pub cost-next : (d n : ℕ) → cost (suc d) n ≡ 8000000000 * n + cost d n
unfolding cost
cost-next d n = refl

-- what so many nodes inside a container may cost
unfoldable pub under : ℕ → ℕ → ℕ
under zero n = 0
under (suc d) n = cost d n

pub cost-under : (d n : ℕ) → cost d n ≡ 8000000000 * n + under d n
unfolding cost under
cost-under zero n = omega arith
cost-under (suc d) n = refl

pub cost_most : (d n m : ℕ) → n ≤ m → cost d n ≤ cost d m
cost_most d n m h = let e : n + (m - n) ≡ m = omega arith in omega (arith, cost-add d n (m - n), ap (cost d) e)

pub under_most : (d n m : ℕ) → n ≤ m → under d n ≤ under d m
unfolding under
under_most zero n m h = omega arith
under_most (suc d) n m h = cost_most d n m h

pub cost_deep : (n : ℕ) → cost 65 n ≡ 528000000000 * n
unfolding cost
cost_deep n = omega arith

-- ---- nodes

-- how many nodes lie between a node and the one past all that it starts; Root has all up to its link
unfoldable pub size_of : Tape → ℕ → ℕ
size_of t k = cond (eqb k 0) (link_at t.nodes 0 + 1) (past t.nodes k - k)

unfoldable pub sizes : Tape → List ℕ → ℕ
sizes t [] = 0
sizes t (k ∷ ks) = size_of t k + sizes t ks

-- what a row of nodes may cost
unfoldable pub mass : Tape → ℕ → List ℕ → ℕ
mass t d [] = 0
mass t d (k ∷ ks) = cost d (size_of t k) + mass t d ks

pub mass_is : (t : Tape) (d : ℕ) (ks : List ℕ) → mass t d ks ≡ cost d (sizes t ks)
unfolding mass sizes
mass_is t d [] = omega (arith, cost-add d 0 0)
mass_is t d (k ∷ ks) = omega (arith, mass_is t d ks, cost-add d (size_of t k) (sizes t ks))

size_behind : (t : Tape) (k : ℕ) → 0 < k → size_of t k ≡ past t.nodes k - k
unfolding size_of
size_behind t k h = rw (ne_eqb k 0 (λ e. omega arith))

size_root : (t : Tape) → size_of t 0 ≡ link_at t.nodes 0 + 1
unfolding size_of
size_root t = refl

pub tiles_size : (t : Tape) (ks : List ℕ) (a z : ℕ) → 0 < a → Tiles t.nodes a z ks → a + sizes t ks ≡ z
unfolding sizes
tiles_size t [] a z h e = omega (arith, e)
tiles_size t (k ∷ ks) a z h e =
    omega (arith, tiles_size t ks (past t.nodes a) z (omega (arith, e.2)) e.3, e.2, ap (size_of t) e.0, size_behind t a h)

none_size : (t : Tape) → sizes t [] ≡ 0
unfolding sizes
none_size t = refl

size_open : (t : Tape) (k : ℕ) → 0 < k → Container t.nodes k → size_of t k ≡ link_at t.nodes k + 1 - k
size_open t k h o = omega (arith, size_behind t k h, past_open t.nodes k o)

-- ---- parts of a row

pub without-mass : (t : Tape) (d : ℕ) (p : ℕ → Bool) (ks : List ℕ) → mass t d (without p ks) ≤ mass t d ks
unfolding without mass
without-mass t d p [] = omega arith
without-mass t d p (k ∷ ks) = go (without-mass t d p ks) (p k)
  where
    go : mass t d (without p ks) ≤ mass t d ks → (x : Bool) → mass t d (cond x (without p ks) (k ∷ without p ks)) ≤ cost d (size_of t k) + mass t d ks
    go h true = omega arith
    go h false = omega arith

pub cut-mass : (t : Tape) (d : ℕ) (p : ℕ → Bool) (ks : List ℕ) → mass t d (up_to p ks) + mass t d (from_first p ks) ≡ mass t d ks
unfolding up_to from_first mass
cut-mass t d p [] = omega arith
cut-mass t d p (k ∷ ks) = go (cut-mass t d p ks) (p k)
  where
    go : mass t d (up_to p ks) + mass t d (from_first p ks) ≡ mass t d ks → (x : Bool) → mass t d (cond x [] (k ∷ up_to p ks)) + mass t d (cond x (k ∷ ks) (from_first p ks)) ≡ cost d (size_of t k) + mass t d ks
    go h true = omega arith
    go h false = omega arith

-- ---- an admitted file

module _ (file : Bytes) (z : Kept₇ file) where
  abbrev t : Tape
  t = tape_of file

  pub size_some : (k : ℕ) → 1 ≤ size_of t k
  size_some zero = omega (arith, size_root t)
  size_some (suc k) = omega (arith, size_behind t (suc k) (omega arith), past_forward t.nodes z.nested (suc k))

  pub count_most : (ks : List ℕ) → length ks ≤ sizes t ks
  unfolding sizes
  count_most [] = omega arith
  count_most (k ∷ ks) = omega (arith, count_most ks, size_some k)

  -- a node and its children
  pub inner_size : (k : ℕ) → sizes t (children t k) + 1 ≤ size_of t k
  inner_size zero = omega (arith, size_root t, tiles_size t (children t 0) 1 (link_at t.nodes 0) (omega arith) (root_cover file z))
  inner_size (suc k) =
      by_part t.nodes (suc k)
      (λ o. omega (arith, tiles_size t (children t (suc k)) (suc k + 1) (link_at t.nodes (suc k)) (omega arith) (children_cover file z (suc k) o), size_open t (suc k) (omega arith) o))
      (λ o. omega (arith, ap (sizes t) (leaf-children file z (suc k) o (λ e. omega arith)), none_size t, size_some (suc k)))

  pub root_size : sizes t (children t 0) ≤ link_at t.nodes 0
  root_size = omega (arith, tiles_size t (children t 0) 1 (link_at t.nodes 0) (omega arith) (root_cover file z))
