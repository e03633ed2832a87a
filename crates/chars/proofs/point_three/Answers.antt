use Rattle.chars.proofs.Laws.{three_point}
use Rattle.chars.proofs.point_three.Goals as goal

pub returns : goal.returns
returns c = search three_point
