use Rattle.desk.proofs.Strokes.{drew_attr}
use Rattle.desk.proofs.Desk.attr.Goals as goal

pub returns : goal.returns
returns c = drew_attr _ _ _ _ _ _ _ c.key.ensures c.piece.ensures c.end_value.ensures
