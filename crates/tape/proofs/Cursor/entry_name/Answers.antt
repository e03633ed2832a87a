use Rattle.tape.proofs.Laws.{name_known, name-unknown}
use Rattle.tape.proofs.Placed.{unknown_at, known_at}
use Rattle.tape.proofs.Cursor.entry_name.Goals as goal

pub returns-in-Some : goal.returns-in-Some
returns-in-Some c = record { bytes = search name_known; place = search known_at }

pub returns-in-None : goal.returns-in-None
returns-in-None c = record { bytes = search name-unknown; place = search unknown_at }
