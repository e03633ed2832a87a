use Prim.Native.Nat.{◌-◌, ◌≤◌}
use mathlib.Core.Path.{◌≡◌}
use lib.ListN.{length}
use Rattle.put_body.specs.Edge.{core_end_of}
use Rattle.put_body.proofs.Ends.{end_from}
use Rattle.put_body.proofs.core_len.Given as goal

abbrev pub invariant-loop-at : goal.invariant-loop-at
invariant-loop-at l = (l.at ≤ length l.s) × (end_from l.s l.at l.end ≡ length (core_end_of l.s))

abbrev pub decreases-loop-at : goal.decreases-loop-at
decreases-loop-at l = length l.s - l.at
