use Rattle.put_body.proofs.Frames.{found_space, found-body}
use Rattle.put_body.proofs.frame.is_framed.Goals as goal

pub returns-then-size-eq1 : goal.returns-then-size-eq1
returns-then-size-eq1 c = search found_space

pub returns-else-len-eq0 : goal.returns-else-len-eq0
returns-else-len-eq0 c = search found-body
