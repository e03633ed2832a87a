use Rattle.window.proofs.Decimal.{Left}
use Rattle.window.proofs.digits_of.Given as goal

abbrev pub invariant-loop-m : goal.invariant-loop-m
invariant-loop-m l = Left l.n l.bytes l.start l.m

abbrev pub decreases-loop-m : goal.decreases-loop-m
decreases-loop-m l = l.start
