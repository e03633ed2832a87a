use Rattle.checker.proofs.Whole.{Going}
use lib.ListN.{length}
use Prim.Native.Nat.{◌-◌}
use Rattle.checker.proofs.walk.Given as goal

abbrev pub invariant-loop-at : goal.invariant-loop-at
invariant-loop-at l = Going l.text l.state l.at

abbrev pub decreases-loop-at : goal.decreases-loop-at
decreases-loop-at l = length l.text - l.at
