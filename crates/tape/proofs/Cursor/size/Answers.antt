use Rattle.tape.proofs.Laws.{size_whole, size_cut}
use Rattle.tape.proofs.Cursor.size.Goals as goal

pub returns-then-n-left : goal.returns-then-n-left
returns-then-n-left c = search size_whole

pub returns-else-n-left : goal.returns-else-n-left
returns-else-n-left c = search size_cut
