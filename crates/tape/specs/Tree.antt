-- From a node to others: its close, its children, its siblings.
use Rattle.std.specs.Prelude.{ℕ, zero, suc, ◌+◌, ◌-◌, List, [], ◌∷◌, Bool, cond, ◌||◌, length, eqb, ltb, None, Some, is_some}
use Rattle.tape.specs.File.{Tape, node_at, kind_at}
use Rattle.tape.specs.Found.{Step}
use Rattle.tape.specs.Kind as kinds

-- MarkerClose and BlockEnd
unfoldable pub is_close : ℕ → Bool
is_close kind = eqb kind kinds.marker_close || eqb kind kinds.block_end_of

-- Root and MarkerOpen hold others; of other kinds the link says nothing
unfoldable pub holds : ℕ → Bool
holds kind = eqb kind kinds.root || eqb kind kinds.marker_open

-- the close of a MarkerOpen: the node that it links to
unfoldable pub matching_close : Tape → ℕ → Step
matching_close t k = cond (eqb (kind_at t k) kinds.marker_open) (Some (record { at = (node_at t k).link })) None

-- the node behind k, where it stands before the link and on a tape of so many nodes
unfoldable pub child_before : ℕ → ℕ → ℕ → Step
child_before nodes k link =
    cond (ltb (k + 1) link) (cond (ltb (k + 1) nodes) (Some (record { at = k + 1 })) None) None

-- the first child: the next node, where it stands before the link
unfoldable pub first_child : Tape → ℕ → Step
first_child t k = cond (holds (kind_at t k)) (child_before (length t.nodes) k (node_at t k).link) None

-- the last node of what a node holds: its link, or itself
unfoldable pub last_held : Tape → ℕ → ℕ
last_held t k = cond (holds (kind_at t k)) (node_at t k).link k

-- the node behind `last`: none where it is not further on than k, not on the tape, or a close
unfoldable pub sibling_past : Tape → ℕ → ℕ → Step
sibling_past t k last =
    cond (ltb last k) None
    (cond (ltb (last + 1) (length t.nodes))
    (cond (is_close (kind_at t (last + 1))) None (Some (record { at = last + 1 }))) None)

-- the next sibling: behind all that the node holds
unfoldable pub next_sibling : Tape → ℕ → Step
next_sibling t k = sibling_past t k (last_held t k)

-- how many steps a walk along siblings can still take
unfoldable pub left : Tape → Step → ℕ
left t None = 0
left t (Some c) = suc (length t.nodes - c.at)

-- the nodes of a walk along siblings, at most so many
unfoldable pub along : Tape → ℕ → Step → List ℕ
along t zero s = []
along t (suc n) None = []
along t (suc n) (Some c) = c.at ∷ along t n (next_sibling t c.at)

-- a node and the siblings behind it
unfoldable pub walk_from : Tape → Step → List ℕ
walk_from t s = along t (left t s) s

-- the children of a node, by index
unfoldable pub children : Tape → ℕ → List ℕ
children t k = walk_from t (first_child t k)

-- the siblings behind a node, by index
unfoldable pub siblings : Tape → ℕ → List ℕ
siblings t k = walk_from t (next_sibling t k)

-- whether a step leads to a node
abbrev pub found : Step → Bool
found s = is_some s

-- ---- lists of nodes

-- a list up to the first node that passes a test
unfoldable pub up_to : (ℕ → Bool) → List ℕ → List ℕ
up_to p [] = []
up_to p (k ∷ ks) = cond (p k) [] (k ∷ up_to p ks)

-- a list from the first node on that passes a test
unfoldable pub from_first : (ℕ → Bool) → List ℕ → List ℕ
from_first p [] = []
from_first p (k ∷ ks) = cond (p k) (k ∷ ks) (from_first p ks)

-- a list without the nodes that pass a test
unfoldable pub without : (ℕ → Bool) → List ℕ → List ℕ
without p [] = []
without p (k ∷ ks) = cond (p k) (without p ks) (k ∷ without p ks)
