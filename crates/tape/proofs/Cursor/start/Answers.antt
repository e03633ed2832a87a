use Rattle.tape.proofs.Laws.{start_of}
use Rattle.tape.proofs.Cursor.start.Goals as goal

pub returns : goal.returns
returns c = search start_of
