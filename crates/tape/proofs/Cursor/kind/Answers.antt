use Rattle.tape.proofs.Laws.{kind_of}
use Rattle.tape.proofs.Cursor.kind.Goals as goal

pub returns : goal.returns
returns c = search kind_of
