use Rattle.put_attrs.proofs.Written.{pair-written}
use Rattle.put_attrs.proofs.put_folded.Goals as goal

pub returns : goal.returns
returns c = search pair-written
