use Rattle.layout.proofs.Laid.{push-laid}
use Rattle.layout.proofs.add.Goals as goal

pub returns : goal.returns
returns c = search push-laid
