use Rattle.put_body.proofs.Turns.{body_put}
use Rattle.put_body.proofs.put_body.Goals as goal

pub returns : goal.returns
returns c = search body_put
