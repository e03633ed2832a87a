use Rattle.layout.proofs.Turn.{turned_over}
use Rattle.layout.proofs.turn_over.Goals as goal

pub returns : goal.returns
returns c = search turned_over
