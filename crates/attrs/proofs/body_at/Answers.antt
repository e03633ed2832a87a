use Rattle.attrs.proofs.Walks.{body_placed}
use Rattle.attrs.proofs.body_at.Goals as goal

pub returns : goal.returns
returns c = search body_placed
