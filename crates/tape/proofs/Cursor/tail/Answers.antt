use Rattle.tape.proofs.Laws.{tail_of}
use Rattle.tape.proofs.Cursor.tail.Goals as goal

pub returns : goal.returns
returns c = search tail_of
