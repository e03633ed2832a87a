use mathlib.Core.Path.{◌≡◌}
use mathlib.Core.Bool.{Bool}
use Prim.Native.Nat.{ℕ}
use Rattle.tape.specs.File.{contents}
use Rattle.tape.specs.Tree.{walk_from, left}
use Rattle.render.specs.First.{first_with, IsNodeTest}
use Rattle.render.proofs.children.find.Given as goal

abbrev pub invariant-loop-step : goal.invariant-loop-step
invariant-loop-step g l =
    (test : ℕ → Bool) → IsNodeTest (goal.F-post g l.passes) test → first_with test (walk_from (contents l.tape) l.step) ≡ first_with test (walk_from (contents l.tape) l.initial.step)

abbrev pub decreases-loop-step : goal.decreases-loop-step
decreases-loop-step g l = left (contents l.tape) l.step
