-- The first node of a list that passes a test.
use Rattle.std.specs.Prelude.{ℕ, ◌≡◌, Bool, true, false, List, [], ◌∷◌, None, Some}
use Rattle.tape.specs.Tree.{found}
use Rattle.tape.specs.Found.{Step}
use Rattle.tape.specs.declared.Cursor.{Cursor}

-- the first node of a list that passes a test
unfoldable pub first_with : (ℕ → Bool) → List ℕ → Step
first_with p [] = None
first_with p (k ∷ ks) = elim (p k) as (λ x. Step) [ true ↦ Some (record { at = k }) | false ↦ first_with p ks ]

-- whether a node of a list passes a test
unfoldable pub any : (ℕ → Bool) → List ℕ → Bool
any p ks = found (first_with p ks)

-- what a closure returns at a node is what a test says of its index
abbrev pub IsNodeTest : (Cursor → Bool → Type 0) → (ℕ → Bool) → Type 0
IsNodeTest post p = (c : Cursor) (r : Bool) → post c r → r ≡ p c.at
