use Rattle.tape.specs.File.{contents}
use Rattle.nest.proofs.Loop.{Loop}
use Rattle.nest.proofs.nests.Given as goal

abbrev pub invariant-loop-at : goal.invariant-loop-at
invariant-loop-at l = Loop (contents l.t).nodes l.at l.top l.awaited
