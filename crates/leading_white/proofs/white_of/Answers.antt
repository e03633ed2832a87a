use Rattle.leading_white.proofs.Found.{white-found}
use Rattle.leading_white.proofs.white_of.Goals as goal

pub returns : goal.returns
returns c = search white-found
