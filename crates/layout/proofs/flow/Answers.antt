use Rattle.layout.proofs.Laid.{pour-laid}
use Rattle.layout.proofs.flow.Goals as goal

pub returns : goal.returns
returns c = search pour-laid
