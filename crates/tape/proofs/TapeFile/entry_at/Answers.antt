use Rattle.tape.proofs.Laws.{entry_in}
use Rattle.tape.proofs.TapeFile.entry_at.Goals as goal

pub returns : goal.returns
returns c = search entry_in
