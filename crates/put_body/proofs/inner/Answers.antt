use Rattle.put_body.proofs.Easy.{inner_is}
use Rattle.put_body.proofs.inner.Goals as goal

pub returns : goal.returns
returns c = search inner_is
