use Rattle.tape.proofs.Laws.{child_some, child_none}
use Rattle.tape.proofs.Cursor.first_child.Goals as goal

pub returns-then-holds : goal.returns-then-holds
returns-then-holds c = search child_some

pub returns-else-holds : goal.returns-else-holds
returns-else-holds c = search child_none
