use Rattle.parts.proofs.Copied.{laid-within, laid_across, laid_before}
use Rattle.lay.proofs.lay_run.Goals as goal

pub returns-then-from-at : goal.returns-then-from-at
returns-then-from-at c = search laid-within

pub returns-then-skipped-run : goal.returns-then-skipped-run
returns-then-skipped-run c = search laid_across

pub returns-else-skipped-run : goal.returns-else-skipped-run
returns-else-skipped-run c = search laid_before
