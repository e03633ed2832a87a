use Rattle.tape.proofs.Laws.{entry_there, entry-cut, entry_out}
use Rattle.tape.proofs.TapeFile.entry_bytes.Goals as goal

pub returns-then-end-self : goal.returns-then-end-self
returns-then-end-self c = search entry_there

pub returns-then-at-self : goal.returns-then-at-self
returns-then-at-self c = search entry-cut

pub returns : goal.returns
returns c = search entry_out
