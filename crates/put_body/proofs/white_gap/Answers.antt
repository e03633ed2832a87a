use Rattle.put_body.proofs.Tests.{white-ends, white_goes}
use Rattle.put_body.proofs.white_gap.Goals as goal

pub returns-then-len-s : goal.returns-then-len-s
returns-then-len-s c = search white-ends

pub returns-else-len-s : goal.returns-else-len-s
returns-else-len-s c = search white_goes
