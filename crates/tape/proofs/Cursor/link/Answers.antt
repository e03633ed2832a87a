use Rattle.tape.proofs.Laws.{link_of_lem}
use Rattle.tape.proofs.Cursor.link.Goals as goal

pub returns : goal.returns
returns c = search link_of_lem
