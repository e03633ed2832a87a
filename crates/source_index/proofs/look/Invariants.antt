use Rattle.source_index.proofs.Firsts.{Passed}
use Rattle.source_index.proofs.look.Given as goal

abbrev pub invariant-loop-at : goal.invariant-loop-at
invariant-loop-at l = Passed l.test l.s l.i l.end l.at
