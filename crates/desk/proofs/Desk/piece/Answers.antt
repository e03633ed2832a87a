use Rattle.desk.specs.Stroke.{ink}
use Rattle.desk.proofs.Strokes.{drew_one}
use Rattle.desk.proofs.Desk.piece.Goals as goal

pub returns-then-raw : goal.returns-then-raw
unfolding ink
returns-then-raw c = rw c.if-raw.true (drew_one _ _ _ c.put_run.ensures)

pub returns-else-raw : goal.returns-else-raw
unfolding ink
returns-else-raw c = rw c.if-raw.false (drew_one _ _ _ c.escape_xml_attr.ensures)
