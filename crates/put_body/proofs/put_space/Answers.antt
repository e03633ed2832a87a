use Rattle.put_body.proofs.Turns.{space_put, space_left}
use Rattle.put_body.proofs.put_space.Goals as goal

pub returns-then-t : goal.returns-then-t
returns-then-t c = search space_put

pub returns-else-t : goal.returns-else-t
returns-else-t c = search space_left
