use Rattle.tape.specs.File.{contents}
use Rattle.tape.specs.Tree.{left}
use Rattle.put_attrs.proofs.Along.{Alike}
use Rattle.put_attrs.proofs.first_attribute.Given as goal

abbrev pub invariant-loop-step : goal.invariant-loop-step
invariant-loop-step l = Alike (contents l.tape) l.step l.initial.step

abbrev pub decreases-loop-step : goal.decreases-loop-step
decreases-loop-step l = left (contents l.tape) l.step
