use Prim.Native.Nat.{◌-◌, ◌≤◌}
use Rattle.parts.proofs.Block.{LaidTo}
use Rattle.lay.proofs.lay_long.Given as goal

abbrev pub invariant-loop-i : goal.invariant-loop-i
invariant-loop-i l = (l.i ≤ l.n) × LaidTo l.initial.out l.start l.run l.i l.out

abbrev pub decreases-loop-i : goal.decreases-loop-i
decreases-loop-i l = l.n - l.i
