use Rattle.desk.proofs.Strokes.{plain_drawn}
use Rattle.desk.proofs.Desk.plain_piece.Goals as goal

pub returns : goal.returns
returns c = plain_drawn _ _ _ c.put_run.ensures
