use mathlib.Core.Path.{refl}
use Rattle.tape.proofs.Walk.{left-turn}
use Rattle.holders.proofs.Finds.{has_ended, has_cut, has_skipped, has_found, has_past}
use Rattle.holders.proofs.has_block.Goals as goal

pub loop-step-init : goal.loop-step-init
loop-step-init c = refl

pub returns : goal.returns
returns c = search has_ended

pub returns-in-End : goal.returns-in-End
returns-in-End c = search has_cut

pub loop-step-smaller-in-Skipped : goal.loop-step-smaller-in-Skipped
loop-step-smaller-in-Skipped c = search left-turn

pub loop-step-preserved-in-Skipped : goal.loop-step-preserved-in-Skipped
loop-step-preserved-in-Skipped c = search has_skipped

pub returns-then-is_block : goal.returns-then-is_block
returns-then-is_block c = search has_found

pub loop-step-smaller : goal.loop-step-smaller
loop-step-smaller c = search left-turn

pub loop-step-preserved : goal.loop-step-preserved
loop-step-preserved c = search has_past
