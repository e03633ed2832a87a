use Rattle.tape.proofs.Laws.{flags_of}
use Rattle.tape.proofs.Cursor.flags.Goals as goal

pub returns : goal.returns
returns c = search flags_of
