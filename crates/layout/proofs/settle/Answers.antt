use Rattle.layout.proofs.Turn.{settled}
use Rattle.layout.proofs.settle.Goals as goal

pub returns : goal.returns
returns c = search settled
