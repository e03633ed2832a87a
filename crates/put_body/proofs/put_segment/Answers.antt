use Rattle.put_body.proofs.Ends.{segment_put}
use Rattle.put_body.proofs.put_segment.Goals as goal

pub returns : goal.returns
returns c = search segment_put
