use Rattle.nest.proofs.Tape.{link_in}
use Rattle.nest.proofs.root_link.Goals as goal

pub returns : goal.returns
returns c = search link_in
