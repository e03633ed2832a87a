use Rattle.tape.specs.File.{contents}
use Rattle.walk.proofs.Whole.{Ahead}
use Rattle.walk.proofs.first_number.Given as goal

abbrev pub invariant-loop-i : goal.invariant-loop-i
invariant-loop-i l = Ahead (contents l.tape) l.i
