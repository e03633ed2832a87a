use Rattle.tape.proofs.NameRule.{bare_of}
use Rattle.tape.proofs.Placed.{bare_at}
use Rattle.tape.proofs.name.bare.Goals as goal

pub returns : goal.returns
returns c = record { bytes = search bare_of; place = search bare_at }
