use Rattle.render.proofs.Follows.{follows_of}
use Rattle.render.proofs.follow.inline_follows.Goals as goal

pub returns : goal.returns
returns c = search follows_of
