use mathlib.Core.Path.{refl}
use Rattle.tape.proofs.Walk.{left-turn}
use Rattle.tables.proofs.Parts.{rows_end, rows_cut, rows_skip, rows_stop, rows-turn}
use borrow.Author.Rules.{rules}
use Rattle.tables.proofs.rows.Goals as goal

pub loop-step-init : goal.loop-step-init
loop-step-init c = (refl, refl)

pub returns : goal.returns
returns c = search rows_end

pub returns-in-End : goal.returns-in-End
returns-in-End c = search rows_cut

pub loop-step-smaller-in-Skipped : goal.loop-step-smaller-in-Skipped
loop-step-smaller-in-Skipped c = search left-turn

pub loop-step-preserved-in-Skipped : goal.loop-step-preserved-in-Skipped
loop-step-preserved-in-Skipped c = (search rows_skip, search rules)

pub loop-step-smaller : goal.loop-step-smaller
loop-step-smaller c = search left-turn

pub loop-step-preserved : goal.loop-step-preserved
loop-step-preserved c = (search rows-turn, search rules)

pub returns-then-not-is_row : goal.returns-then-not-is_row
returns-then-not-is_row c = search rows_stop
