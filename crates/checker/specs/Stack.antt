-- The elements that are open, as the code keeps them.
use Rattle.std.specs.Prelude.{ℕ, zero, suc, Bool, false, List, [], ◌∷◌, get_or, eqb}

-- the room of the code's list of open elements, enough for every height that is not over 160
abbrev pub room : ℕ
room = 160

-- the first elements of the list, the last of them innermost
unfoldable pub stack_of : List ℕ → ℕ → List ℕ
stack_of a zero = []
stack_of a (suc d) = get_or a d 0 ∷ stack_of a d

-- whether the innermost of the open elements is this one
unfoldable pub is_innermost : List ℕ → ℕ → Bool
is_innermost [] n = false
is_innermost (m ∷ ns) n = eqb m n
