use Rattle.tape.proofs.Laws.{names_in}
use Rattle.parts.proofs.Places.{very_at}
use Rattle.tape.proofs.TapeFile.names.Goals as goal

pub returns : goal.returns
returns c = record { bytes = search names_in; place = search very_at }
