use mathlib.Core.Path.{◌≡◌}
use Prim.Native.Nat.{◌≤◌}
use Rattle.tape.specs.File.{contents}
use Rattle.tape.specs.Tree.{left, from_first}
use Rattle.lists.specs.Span.{nodes_in, stops_at_of, run_end_of}
use Rattle.lists.proofs.past_run.Given as goal

abbrev pub invariant-loop-step : goal.invariant-loop-step
invariant-loop-step l = (from_first (stops_at_of (contents l.tape) l.stop) (nodes_in (contents l.tape) l.span l.step) ≡ from_first (stops_at_of (contents l.tape) l.stop) (nodes_in (contents l.tape) l.span l.initial.step)) × ((left (contents l.tape) l.step ≤ left (contents l.tape) l.initial.step) × (run_end_of (contents l.tape) l.span l.stop l.step ≡ run_end_of (contents l.tape) l.span l.stop l.initial.step))

abbrev pub decreases-loop-step : goal.decreases-loop-step
decreases-loop-step l = left (contents l.tape) l.step
