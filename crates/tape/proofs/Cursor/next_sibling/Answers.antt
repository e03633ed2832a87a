use Rattle.tape.proofs.Laws.{next_of}
use Rattle.tape.proofs.Cursor.next_sibling.Goals as goal

pub returns : goal.returns
returns c = search next_of
