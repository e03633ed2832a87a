use Rattle.layout.proofs.Laid.{copied}
use Rattle.layout.proofs.lay.Goals as goal

pub returns : goal.returns
returns c = search copied
