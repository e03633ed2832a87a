use Rattle.tape.proofs.Laws.{len_of}
use Rattle.tape.proofs.Cursor.len.Goals as goal

pub returns : goal.returns
returns c = search len_of
