use Rattle.render.proofs.Shapes.{shape_known, shape_other, shape_unknown}
use Rattle.render.proofs.shape.unknown_shape.Goals as goal

pub returns-then-n-ne-MARKER_OPEN : goal.returns-then-n-ne-MARKER_OPEN
returns-then-n-ne-MARKER_OPEN c = search shape_other

pub returns-in-Some : goal.returns-in-Some
returns-in-Some c = search shape_known

pub returns-in-None : goal.returns-in-None
returns-in-None c = search shape_unknown
