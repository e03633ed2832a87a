use Rattle.tape.proofs.Laws.{entry_name_in}
use Rattle.tape.proofs.Placed.{entry_at}
use Rattle.tape.proofs.TapeFile.entry_name.Goals as goal

pub returns : goal.returns
returns c = record { bytes = search entry_name_in; place = search entry_at }
