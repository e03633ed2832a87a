use Rattle.steps.proofs.Calls.{called}
use Rattle.steps.proofs.chapter.Goals as goal

pub returns : goal.returns
returns c = let read = c.in-Some.ensures.some in search called
