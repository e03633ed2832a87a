-- Both sides of refusals 6 and 7.
use mathlib.Core.Path.{◌≡◌, refl}
use mathlib.Core.Bool.{Bool, true, false}
use mathlib.Core.List.{List, [], ◌∷◌, ◌++◌}
use Prim.Native.Nat.{ℕ, zero, suc, ◌+◌}
use Rattle.tape.specs.declared.Node.{Node}
use Rattle.nest.specs.Nest.{container, close, part_of, TooDeep, Sound}
use Rattle.nest.specs.Decide.{deep_from_of, too_deep, awaited, match_from_of, all_matched_of, root_ends_of, sound}
use Rattle.nest.proofs.Decide.{decides_6, decides_7}

abbrev node : ℕ → ℕ → Node
node k l =
    record {
      kind = record { code = k };
      flags = record { bits = 0 };
      marker = 0;
      link = l;
      start = 0;
      len = 0;
    }

-- n containers, each around the next, of which the innermost ends at e
abbrev opens : ℕ → ℕ → List Node
opens zero e = []
opens (suc n) e = node 3 (e + n) ∷ opens n e

abbrev closes : ℕ → List Node
closes zero = []
closes (suc n) = node 5 0 ∷ closes n

-- n containers, each around the next, with their closes
abbrev rooms : ℕ → List Node
rooms n = node 0 (n + n + 1) ∷ (opens n (n + 1) ++ closes n)

-- n containers with no close, the last nodes of the tape
abbrev unclosed : ℕ → List Node
unclosed n = node 0 (n + 1) ∷ opens n (n + n)

-- two containers of which each starts or ends in the other
abbrev crossed : List Node
crossed = node 0 5 ∷ node 3 3 ∷ node 3 4 ∷ node 5 0 ∷ node 5 0 ∷ []

-- Root and a container have one close
abbrev shared : List Node
shared = node 0 2 ∷ node 3 2 ∷ node 5 0 ∷ []

-- Root ends at the last node, and a leaf links to itself
abbrev ended : List Node
ended = node 0 2 ∷ node 3 1 ∷ node 5 0 ∷ []

pub record Row : Type 0 where
  pub tape : List Node
  pub deep : Bool
  pub fine : Bool

abbrev row : List Node → Bool → Bool → Row
row t d f = record { tape = t; deep = d; fine = f }

abbrev table : List Row
table =
    row (rooms 64) false true
    ∷ row (rooms 65) true false
    ∷ row (unclosed 65) false false
    ∷ row (unclosed 66) true false
    ∷ row crossed false false
    ∷ row shared false false
    ∷ row ended false true
    ∷ []

abbrev Holds : List Row → Type 0
Holds [] = Unit
Holds (r ∷ rs) = (too_deep r.tape ≡ r.deep) × (sound r.tape ≡ r.fine) × Holds rs

rows : Holds table
unfolding deep_from_of too_deep container close part_of awaited match_from_of all_matched_of root_ends_of sound
rows = (refl, refl, (refl, refl, (refl, refl, (refl, refl, (refl, refl, (refl, refl, (refl, refl, tt)))))))

-- what a row says of the definitions
accepted : Sound (rooms 64)
accepted = (decides_7 (rooms 64)).0 rows.1

refused : TooDeep (rooms 65)
refused = (decides_6 (rooms 65)).0 rows.2.0
