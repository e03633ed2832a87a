use Rattle.leading_white.proofs.Found.{ahead_found}
use Rattle.leading_white.proofs.white_ahead.Goals as goal

pub returns : goal.returns
returns c = search ahead_found
