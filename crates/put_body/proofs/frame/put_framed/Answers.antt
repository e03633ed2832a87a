use Rattle.put_body.proofs.Turns.{edged_put}
use Rattle.put_body.proofs.frame.put_framed.Goals as goal

pub returns : goal.returns
returns c = search edged_put
