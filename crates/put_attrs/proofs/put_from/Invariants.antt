use mathlib.Core.Path.{◌≡◌}
use lib.ListN.{length}
use Rattle.tape.specs.File.{contents}
use Rattle.tape.specs.Tree.{left, walk_from}
use Rattle.attrs.specs.Attr.{pairs_along}
use Rattle.put_attrs.proofs.Written.{Ahead}
use Rattle.put_attrs.proofs.Listed.{strokes_of_pairs}
use Rattle.put_attrs.proofs.put_from.Given as goal

abbrev pub invariant-loop-step : goal.invariant-loop-step
invariant-loop-step l = Ahead l.initial.desk l.initial.out (strokes_of_pairs (pairs_along (contents l.tape) l.marker (walk_from (contents l.tape) l.initial.step))) l.desk l.out (strokes_of_pairs (pairs_along (contents l.tape) l.marker (walk_from (contents l.tape) l.step))) × (length l.out ≡ length l.initial.out)

abbrev pub decreases-loop-step : goal.decreases-loop-step
decreases-loop-step l = left (contents l.tape) l.step
