use Prim.Native.Nat.{◌+◌}
use mathlib.Core.Path.{◌≡◌}
use lib.ListN.{drop}
use Rattle.put_body.specs.Body.{shared_len}
use Rattle.put_body.proofs.shared_each.Given as goal

abbrev pub invariant-loop-i : goal.invariant-loop-i
invariant-loop-i l = l.i + shared_len (drop l.i l.s) ≡ shared_len l.s
