use Rattle.render.proofs.Follows.{behind_far}
use Rattle.render.proofs.follow.solid_behind.Goals as goal

pub returns-in_default : goal.returns-in_default
returns-in_default c = search behind_far
