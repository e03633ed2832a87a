use mathlib.Core.Path.{◌≡◌}
use lib.ListN.{length}
use Rattle.tape.specs.File.{contents}
use Rattle.tape.specs.Tree.{left}
use Rattle.desk.specs.Desk.{desk_of}
use Rattle.tables.specs.Rows.{depth_at}
use Rattle.tables.proofs.Parts.{rows_on}
use Rattle.tables.proofs.rows.Given as goal

abbrev pub invariant-loop-step : goal.invariant-loop-step
invariant-loop-step l = (rows_on (contents l.book.tape) l.span (depth_at l.level) l.level (desk_of (contents l.book.tape).source l.desk l.out) l.step ≡ rows_on (contents l.book.tape) l.span (depth_at l.level) l.level (desk_of (contents l.book.tape).source l.initial.desk l.initial.out) l.initial.step) × (length l.out ≡ length l.initial.out)

abbrev pub decreases-loop-step : goal.decreases-loop-step
decreases-loop-step l = left (contents l.book.tape) l.step
