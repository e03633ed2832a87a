use Rattle.chars.proofs.Laws.{two-point}
use Rattle.chars.proofs.point_two.Goals as goal

pub returns : goal.returns
returns c = search two-point
