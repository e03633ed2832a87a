use Prim.Native.Nat.{ℕ}
use mathlib.Core.Path.{◌≡◌}
use mathlib.Core.Bool.{Bool, ◌||◌}
use lib.ListN.{drop}
use Rattle.std.specs.List.{list_any}
use Rattle.parts.specs.Pair.{IsTest}
use Rattle.parts.proofs.any_byte.Given as goal

abbrev pub invariant-loop-x : goal.invariant-loop-x
invariant-loop-x g l = (p : ℕ → Bool) → IsTest (goal.F-post g l.test) p → l.found || list_any p (drop l.x-index l.s) ≡ list_any p l.s
