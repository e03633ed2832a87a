use Rattle.put_body.proofs.Tight.{tight-none, tight-empty, tight_space, tight_scan}
use Rattle.put_body.proofs.is_tight.Goals as goal

pub returns-then-n-gt0 : goal.returns-then-n-gt0
returns-then-n-gt0 c = let w = c.in-Some in tight_scan _ w.ensures.cases.0 _ c.if-n-gt0.true c.if-x-ne32.true c.hard_front.ensures

pub returns-else-n-gt0 : goal.returns-else-n-gt0
returns-else-n-gt0 c = let w = c.in-Some in tight-none _ w.ensures.cases.0 _ c.if-n-gt0.false

pub returns-in_default : goal.returns-in_default
returns-in_default c = let w = c.in-Some in tight_space _ w.ensures.cases.0 _ c.if-x-ne32.false

pub returns-in_default-2 : goal.returns-in_default-2
returns-in_default-2 c = tight-empty _ _ (rw c.in_default.is at c.split_first.ensures.cases)
