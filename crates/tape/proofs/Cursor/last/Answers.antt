use Rattle.tape.proofs.Laws.{last-link, last_self}
use Rattle.tape.proofs.Cursor.last.Goals as goal

pub returns-then-holds : goal.returns-then-holds
returns-then-holds c = search last-link

pub returns-else-holds : goal.returns-else-holds
returns-else-holds c = search last_self
