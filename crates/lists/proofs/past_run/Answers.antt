use mathlib.Core.Path.{refl}
use native.Mathlib.Omega.{arith}
use Rattle.tape.proofs.Walk.{left-turn}
use Rattle.lists.proofs.Nodes.{left_on, left_here, run-over, run-cut, run_skipped, run-found, run_past}
use Rattle.lists.proofs.Steps.{end_over, end_cut, end_skipped, end_found, end_past}
use borrow.Author.Rules.{rules}
use Rattle.lists.proofs.past_run.Goals.{in-Skipped, in-Listed+else-stops}
use Rattle.lists.proofs.past_run.Goals as goal

pub loop-step-init : goal.loop-step-init
loop-step-init c = (refl, (omega arith, refl))

pub returns : goal.returns
returns c = record { result_value = search run-over; result_bound = search rules; value = search end_over }

pub returns-in-End : goal.returns-in-End
returns-in-End c = record { result_value = search run-cut; result_bound = search left_here; value = search end_cut }

pub loop-step-smaller : goal.loop-step-smaller
loop-step-smaller c = search left-turn

pub loop-step-preserved : goal.loop-step-preserved
loop-step-preserved c =
    let i = c.loop-step.invariant in
    elim c.match-member_of.branch [
      | in-Skipped w ↦ (search (run_skipped, i.0, w), (search (left_on, i.1.0), search (end_skipped, i.1.1, w)))
      | in-Listed+else-stops w ↦ (search (run_past, i.0, w), (search (left_on, i.1.0), search (end_past, i.1.1, w)))
    ]

pub returns-then-stops : goal.returns-then-stops
returns-then-stops c = record { result_value = search run-found; result_bound = search left_here; value = search end_found }
