use Prim.Native.Nat.{◌-◌, ◌≤◌}
use mathlib.Core.Bool.{◌||◌}
use mathlib.Core.Path.{◌≡◌}
use lib.ListN.{take, drop}
use Rattle.put_body.specs.Easy.{hard_front}
use Rattle.put_body.proofs.hard_block.Given as goal

abbrev pub invariant-loop-i : goal.invariant-loop-i
invariant-loop-i l =
    (1 ≤ l.i) × (l.i ≤ 17) × (l.k ≡ l.i) × (l.found || hard_front (17 - l.i) (drop (l.i - 1) (take l.n l.s)) ≡ hard_front 16 (take l.n l.s))

abbrev pub decreases-loop-i : goal.decreases-loop-i
decreases-loop-i l = 17 - l.i
