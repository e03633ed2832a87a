use mathlib.Core.Path.{◌≡◌}
use lib.ListN.{length}
use Rattle.tape.specs.File.{contents}
use Rattle.tape.specs.Tree.{left}
use Rattle.desk.specs.Desk.{desk_of}
use Rattle.tables.proofs.Parts.{cells_on}
use Rattle.tables.proofs.cells_along.Given as goal

abbrev pub invariant-loop-step : goal.invariant-loop-step
invariant-loop-step l = (cells_on (contents l.book.tape) l.depth l.level (desk_of (contents l.book.tape).source l.desk l.out) l.step ≡ cells_on (contents l.book.tape) l.depth l.level (desk_of (contents l.book.tape).source l.initial.desk l.initial.out) l.initial.step) × (length l.out ≡ length l.initial.out)

abbrev pub decreases-loop-step : goal.decreases-loop-step
decreases-loop-step l = left (contents l.book.tape) l.step
