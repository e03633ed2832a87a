use Rattle.names.proofs.Keys.{collected_alike}
use Rattle.names.proofs.key_hit.Goals as goal

pub returns : goal.returns
returns c = search collected_alike
