use Rattle.layout.proofs.Turn.{filed}
use Rattle.layout.proofs.close_up.Goals as goal

pub returns : goal.returns
returns c = search filed
