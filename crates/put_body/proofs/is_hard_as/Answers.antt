use Rattle.put_body.proofs.Tight.{hard_as}
use Rattle.put_body.proofs.is_hard_as.Goals as goal

pub returns : goal.returns
returns c = search hard_as
