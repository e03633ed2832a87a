use Rattle.tape.proofs.Laws.{synthetic_of}
use Rattle.tape.proofs.Cursor.is_synthetic.Goals as goal

pub returns : goal.returns
returns c = search synthetic_of
