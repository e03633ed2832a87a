use mathlib.Core.Path.{◌≡◌}
use lib.ListN.{drop}
use Rattle.put_body.specs.Easy.{any_hard}
use Rattle.put_body.proofs.hard_each.Given as goal

abbrev pub invariant-loop-i : goal.invariant-loop-i
invariant-loop-i l = any_hard (drop l.i l.s) ≡ any_hard l.s
