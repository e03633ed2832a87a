use Rattle.desk.proofs.Strokes.{drew_one}
use Rattle.desk.proofs.Desk.open_tag.Goals as goal

pub returns : goal.returns
returns c = drew_one _ _ _ c.put_open.ensures
