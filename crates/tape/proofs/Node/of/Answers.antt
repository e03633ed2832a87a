use Rattle.tape.proofs.Laws.{node_read, node_short}
use Rattle.tape.proofs.Node.of.Goals as goal

pub returns-then-s-ge16 : goal.returns-then-s-ge16
returns-then-s-ge16 c = search node_read

pub returns : goal.returns
returns c = search node_short
