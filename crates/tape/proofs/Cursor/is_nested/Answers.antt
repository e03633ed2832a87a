use Rattle.tape.proofs.Laws.{nested_of}
use Rattle.tape.proofs.Cursor.is_nested.Goals as goal

pub returns : goal.returns
returns c = search nested_of
