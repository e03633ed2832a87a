use Rattle.tape.specs.File.{contents}
use Rattle.nest.proofs.Counted.{Counted}
use Rattle.nest.proofs.too_deep.Given as goal

abbrev pub invariant-loop-i : goal.invariant-loop-i
invariant-loop-i l = Counted (contents l.t).nodes l.i l.opens l.closes
