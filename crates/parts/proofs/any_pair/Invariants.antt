use Prim.Native.Nat.{ℕ, ◌-◌}
use mathlib.Core.Path.{◌≡◌}
use mathlib.Core.Bool.{Bool, ◌||◌}
use lib.ListN.{drop}
use Rattle.parts.specs.Pair.{IsPairTest, any_pair}
use Rattle.parts.proofs.any_pair.Given as goal

abbrev pub invariant-loop-i : goal.invariant-loop-i
invariant-loop-i g l = (p : ℕ → ℕ → Bool) → IsPairTest (goal.F-post g l.test) p → l.found || any_pair p (drop (l.i - 1) l.s) ≡ any_pair p l.s
