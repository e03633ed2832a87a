use Rattle.inline.proofs.Alone.{lone_put}
use Rattle.inline.proofs.lone.put_lone.Goals as goal

pub returns : goal.returns
returns c = search lone_put
