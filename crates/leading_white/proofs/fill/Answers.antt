use Rattle.leading_white.proofs.Found.{solids_filled}
use Rattle.leading_white.proofs.fill.Goals as goal

pub returns : goal.returns
returns c = search solids_filled
