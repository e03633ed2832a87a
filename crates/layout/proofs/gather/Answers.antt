use Rattle.layout.proofs.Moved.{gathered}
use Rattle.layout.proofs.gather.Goals as goal

pub returns : goal.returns
returns c = search gathered
