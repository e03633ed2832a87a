use Rattle.leading_white.proofs.Found.{past-none, past-some}
use Rattle.leading_white.proofs.past_white.Goals as goal

pub returns-then-white-eq0 : goal.returns-then-white-eq0
returns-then-white-eq0 c = search past-none

pub returns : goal.returns
returns c = search past-some
