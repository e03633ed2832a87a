use Rattle.tape.specs.File.{contents}
use Rattle.names.proofs.Nodes.{Earlier}
use Rattle.names.proofs.find_in.Given as goal

abbrev pub invariant-loop-i : goal.invariant-loop-i
invariant-loop-i l = Earlier (contents l.tape) l.i
