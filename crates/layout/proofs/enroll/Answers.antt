use Rattle.layout.proofs.Moved.{enrolled}
use Rattle.layout.proofs.enroll.Goals as goal

pub returns : goal.returns
returns c = search enrolled
