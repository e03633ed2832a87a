use Rattle.chars.proofs.Laws.{four-point}
use Rattle.chars.proofs.point_four.Goals as goal

pub returns : goal.returns
returns c = search four-point
