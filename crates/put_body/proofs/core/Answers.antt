use Rattle.put_body.proofs.Ends.{core_found}
use Rattle.put_body.proofs.core.Goals as goal

pub returns : goal.returns
returns c = search core_found
