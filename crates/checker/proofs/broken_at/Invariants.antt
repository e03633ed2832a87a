use Rattle.checker.proofs.Places.{Looking}
use lib.ListN.{length}
use Prim.Native.Nat.{◌-◌}
use Rattle.checker.proofs.broken_at.Given as goal

abbrev pub invariant-loop-at : goal.invariant-loop-at
invariant-loop-at l = Looking l.answer l.text l.state l.at

abbrev pub decreases-loop-at : goal.decreases-loop-at
decreases-loop-at l = length l.text - l.at
