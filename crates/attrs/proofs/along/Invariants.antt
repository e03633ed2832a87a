use mathlib.Core.Path.{◌≡◌}
use Rattle.tape.specs.File.{contents}
use Rattle.tape.specs.Tree.{walk_from, left}
use Rattle.attrs.specs.Attr.{pairs_along}
use Rattle.attrs.proofs.along.Given as goal

abbrev pub invariant-loop-step : goal.invariant-loop-step
invariant-loop-step l = pairs_along (contents l.tape) l.marker (walk_from (contents l.tape) l.step) ≡ pairs_along (contents l.tape) l.marker (walk_from (contents l.tape) l.initial.step)

abbrev pub decreases-loop-step : goal.decreases-loop-step
decreases-loop-step l = left (contents l.tape) l.step
