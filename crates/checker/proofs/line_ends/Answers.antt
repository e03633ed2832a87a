use Rattle.checker.specs.Place.{line_end, line_ends}
use Rattle.std.proofs.Common.{rules, refl, cond, true, false, ◌+◌, ◌≡◌, ℕ, List, [], ◌∷◌, Bool, zero-add}
use Rattle.std.proofs.lemmas.List.Recursion.{is_count_by}
use lib.Dec.{eqb}
use Rattle.checker.proofs.line_ends.Goals as goal

line_ends-cons : (c : ℕ) (s : List ℕ) → line_ends (c ∷ s) ≡ cond (eqb c 10) (1 + line_ends s) (line_ends s)
unfolding line_ends line_end
line_ends-cons c s = go (eqb c 10)
  where
    go : (t : Bool) → cond t 1 0 + line_ends s ≡ cond t (1 + line_ends s) (line_ends s)
    go true = refl
    go false = zero-add _

line_ends-nil : line_ends [] ≡ 0
unfolding line_ends
line_ends-nil = refl

pub returns-clause-count : goal.returns-clause-count
returns-clause-count c = search (rules, is_count_by line_ends (λ c. eqb c 10) line_ends-nil line_ends-cons)
