use Rattle.tape.proofs.Laws.{text_of}
use Rattle.tape.proofs.Placed.{text_at}
use Rattle.tape.proofs.Cursor.text.Goals as goal

pub returns : goal.returns
returns c = record { bytes = search text_of; place = search text_at }
