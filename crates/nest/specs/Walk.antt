-- What a row of siblings covers.
use Rattle.std.specs.Prelude.{◌≡◌, false, cond, List, [], ◌∷◌, ◌⊎◌, ℕ, ◌+◌, ◌<◌}
use Rattle.tape.specs.declared.Node.{Node}
use Rattle.nest.specs.Tape.{link_at}
use Rattle.nest.specs.Nest.{container, close}

-- the node after all that node a starts: after its close, or after itself
unfoldable pub past : List Node → ℕ → ℕ
past t a = cond (container t a) (link_at t a) a + 1

-- the ranges of the nodes ks, each from a node that is no close to the one past it, are the nodes from a to b
-- one after the other
abbrev pub Tiles : List Node → ℕ → ℕ → List ℕ → Type 0
Tiles t a b [] = a ≡ b
Tiles t a b (k ∷ ks) = (k ≡ a) × (close t a ≡ false) × (a < past t a) × Tiles t (past t a) b ks

-- siblings lead from a to b
pub record Row (t : List Node) (a b : ℕ) : Type 0 where
  pub nodes : List ℕ
  pub tiles : Tiles t a b nodes

-- a node stands in a list
abbrev pub In : ℕ → List ℕ → Type 0
In j [] = ⊥
In j (k ∷ ks) = (j ≡ k) ⊎ In j ks
