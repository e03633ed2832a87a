use mathlib.Core.Path.{◌≡◌}
use Rattle.tape.specs.File.{contents}
use Rattle.tape.specs.Tree.{left}
use Rattle.fold.specs.Number.{to_come}
use Rattle.fold.proofs.Number.next.Given as goal

abbrev pub invariant-loop-part : goal.invariant-loop-part
invariant-loop-part l = to_come (contents l.tape) (record { rest = l.rest; next = l.next; begun = l.begun; gap = l.gap }) ≡ to_come (contents l.tape) (record { rest = l.initial.rest; next = l.initial.next; begun = l.begun; gap = l.initial.gap })

abbrev pub decreases-loop-part : goal.decreases-loop-part
decreases-loop-part l = left (contents l.tape) l.next
