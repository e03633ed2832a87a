use Rattle.tape.proofs.NameRule.{marker_of}
use Rattle.tape.proofs.Placed.{marker_at}
use Rattle.tape.proofs.Cursor.marker_name.Goals as goal

pub returns : goal.returns
returns c = record { bytes = search marker_of; place = search marker_at }
