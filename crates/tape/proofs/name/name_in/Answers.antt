use Rattle.tape.proofs.NameRule.{name_of}
use Rattle.tape.proofs.Placed.{name_at}
use Rattle.tape.proofs.name.name_in.Goals as goal

pub returns : goal.returns
returns c = record { bytes = search name_of; place = search name_at }
