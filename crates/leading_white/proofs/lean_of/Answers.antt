use Rattle.leading_white.proofs.Found.{lean_read}
use Rattle.leading_white.proofs.lean_of.Goals as goal

pub returns : goal.returns
returns c = search lean_read
