use Rattle.tape.proofs.Laws.{node_in}
use Rattle.tape.proofs.TapeFile.node_at.Goals as goal

pub returns : goal.returns
returns c = search node_in
