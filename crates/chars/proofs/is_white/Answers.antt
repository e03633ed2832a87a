use Rattle.chars.proofs.White.{between_white, white_listed}
use Rattle.chars.proofs.is_white.Goals as goal

pub returns-then-code-lt133 : goal.returns-then-code-lt133
returns-then-code-lt133 c = search between_white

pub returns : goal.returns
returns c = search white_listed
