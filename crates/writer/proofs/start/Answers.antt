use Rattle.writer.proofs.StepRule.{start_done, start_short, start_kept}
use Rattle.writer.proofs.start.Goals as goal

pub returns-in-0 : goal.returns-in-0
returns-in-0 c = rw c.new.ensures (search start_done)

pub returns-in-8 : goal.returns-in-8
returns-in-8 c = search start_short

pub returns-in_default : goal.returns-in_default
returns-in_default c = search start_kept
