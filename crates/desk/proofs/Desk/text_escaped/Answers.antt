use Rattle.desk.specs.Stroke.{ink}
use Rattle.desk.proofs.Strokes.{drew_one}
use Rattle.desk.proofs.Desk.text_escaped.Goals as goal

pub returns : goal.returns
unfolding ink
returns c = drew_one _ _ _ c.escape_xml.ensures
