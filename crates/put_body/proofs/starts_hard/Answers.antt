use Rattle.put_body.proofs.Easy.{hard_high}
use Rattle.put_body.proofs.starts_hard.Goals as goal

pub returns-then-x-gt62 : goal.returns-then-x-gt62
returns-then-x-gt62 c = search hard_high
