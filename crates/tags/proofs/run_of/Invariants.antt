use Rattle.tags.specs.Form.{ok, run}
use lib.ListN.{drop}
use mathlib.Core.Path.{◌≡◌}
use Prim.Native.Nat.{◌+◌}
use Rattle.tags.proofs.run_of.Given as goal

abbrev pub invariant-loop-i : goal.invariant-loop-i
invariant-loop-i l = l.i + run (ok l.class) (drop l.i l.s) ≡ run (ok l.class) l.s
