use Rattle.put_body.proofs.Turns.{written_put}
use Rattle.put_body.proofs.put_written.Goals as goal

pub returns : goal.returns
returns c = search written_put
