use Rattle.source_index.proofs.Blocks.{Filled}
use Rattle.source_index.proofs.fill.Given as goal

abbrev pub invariant-loop-b : goal.invariant-loop-b
invariant-loop-b l = Filled l.test l.s l.b l.next l.table
