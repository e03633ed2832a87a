use Rattle.layout.proofs.Turn.{top_made}
use Rattle.layout.proofs.top.Goals as goal

pub returns : goal.returns
returns c = search top_made
