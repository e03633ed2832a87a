use Rattle.checker.specs.View.{bare, mark_on}
use Rattle.checker.specs.Code.{mark_in}
use Rattle.tags.specs.Form.{pairs_row}
use lib.ListN.{length, drop}
use mathlib.Core.Path.{◌≡◌}
use Prim.Native.Nat.{◌-◌}
use Rattle.checker.proofs.attrs_at.Given as goal

abbrev pub invariant-loop-k : goal.invariant-loop-k
invariant-loop-k l =
    ((pairs_row (drop l.i l.text)).rest ≡ (pairs_row (drop l.at l.text)).rest)
    × (mark_on (mark_in l.text l.form) (pairs_row (drop l.i l.text)).list ≡ mark_on bare (pairs_row (drop l.at l.text)).list)

abbrev pub decreases-loop-k : goal.decreases-loop-k
decreases-loop-k l = length l.text - l.i
