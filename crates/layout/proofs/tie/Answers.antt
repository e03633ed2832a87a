use Rattle.layout.proofs.Chain.{link-laid}
use Rattle.layout.proofs.tie.Goals as goal

pub returns : goal.returns
returns c = search link-laid
