use Rattle.put_body.proofs.Easy.{hard_of}
use Rattle.put_body.proofs.is_hard.Goals as goal

pub returns : goal.returns
returns c = hard_of _ _ c.is_odd.ensures
