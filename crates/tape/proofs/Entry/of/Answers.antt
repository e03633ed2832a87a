use Rattle.tape.proofs.Laws.{entry_read, entry_short}
use Rattle.tape.proofs.Entry.of.Goals as goal

pub returns-then-s-ge8 : goal.returns-then-s-ge8
returns-then-s-ge8 c = search entry_read

pub returns : goal.returns
returns c = search entry_short
