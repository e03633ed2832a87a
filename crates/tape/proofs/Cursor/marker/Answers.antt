use Rattle.tape.proofs.Laws.{marker_of}
use Rattle.tape.proofs.Cursor.marker.Goals as goal

pub returns : goal.returns
returns c = search marker_of
