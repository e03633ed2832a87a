use Rattle.put_attrs.proofs.Written.{next-written}
use Rattle.put_attrs.proofs.put_next.Goals as goal

pub returns : goal.returns
returns c = search next-written
