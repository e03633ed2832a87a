-- How deep the containers of a tape stand, and when they nest.
use Rattle.std.specs.Prelude.{◌≡◌, Bool, true, cond, not, ◌&&◌, ◌||◌, List, ◌⊎◌, ◌≢◌, ℕ, zero, suc, ◌+◌, ◌<◌, length, eqb}
use Rattle.tape.specs.declared.Node.{Node}
use Rattle.nest.specs.Tape.{kind_at, link_at}
use Rattle.nest.specs.declared.Part.{Part}
use Rattle.nest.specs.declared.Part.TheVariants.{Opens, Closes, Leaf}
use Rattle.tape.specs.Kind as kinds

-- a MarkerOpen whose link is not its own index
unfoldable pub container : List Node → ℕ → Bool
container t i = eqb (kind_at t i) kinds.marker_open && not (eqb (link_at t i) i)

-- a MarkerClose or a BlockEnd
unfoldable pub close : List Node → ℕ → Bool
close t i = eqb (kind_at t i) kinds.marker_close || eqb (kind_at t i) kinds.block_end_of

-- a node is a container
abbrev pub Container : List Node → ℕ → Type 0
Container t i = container t i ≡ true

-- a node is a close
abbrev pub Close : List Node → ℕ → Type 0
Close t i = close t i ≡ true

-- what a node does to the nesting
unfoldable pub part_of : List Node → ℕ → Part
part_of t i = cond (container t i) (Opens (link_at t i)) (cond (close t i) Closes Leaf)

-- how many of the first n indices pass a test
unfoldable pub count : (ℕ → Bool) → ℕ → ℕ
count f zero = 0
count f (suc n) = count f n + cond (f n) 1 0

-- the most containers that are open at once
abbrev pub most_open : ℕ
most_open = 64

-- containers less closes before node i, over 64; closes may take the difference below zero
abbrev pub DeepAt : List Node → ℕ → Type 0
DeepAt t i = count (close t) i + most_open < count (container t) i

-- refusal 6
abbrev pub TooDeep : List Node → Type 0
TooDeep t = (i : ℕ) × (i < length t) × DeepAt t i

-- Root's link is j, and no container's is
abbrev pub OfRoot : List Node → ℕ → Type 0
OfRoot t j = (link_at t 0 ≡ j) × ((k : ℕ) → Container t k → link_at t k ≢ j)

-- exactly one container's link is j, and Root's is not
abbrev pub OfOne : List Node → ℕ → Type 0
OfOne t j =
    (link_at t 0 ≢ j)
    × ((k : ℕ) × Container t k × (link_at t k ≡ j) × ((m : ℕ) → Container t m → link_at t m ≡ j → m ≡ k))

-- k starts inside i and ends outside
abbrev pub Cross : List Node → ℕ → ℕ → Type 0
Cross t i k = (i < k) × (k < link_at t i) × (link_at t i < link_at t k)

-- Root's link is the node count, or the last node where that is a BlockEnd
abbrev pub RootEnds : List Node → Type 0
RootEnds t =
    (link_at t 0 ≡ length t)
    ⊎ ((link_at t 0 + 1 ≡ length t) × (kind_at t (link_at t 0) ≡ kinds.block_end_of))

-- nesting is right; refusal 7 is that it is not
pub record Nested (t : List Node) : Type 0 where
  pub later : (i : ℕ) → Container t i → (i < link_at t i) × Close t (link_at t i)
  pub named : (j : ℕ) → Close t j → OfRoot t j ⊎ OfOne t j
  pub apart : (i k : ℕ) → Container t i → Container t k → Cross t i k → ⊥
  pub root : RootEnds t

-- neither 6 nor 7 applies
pub record Sound (t : List Node) : Type 0 where
  pub shallow : TooDeep t → ⊥
  pub nested : Nested t
