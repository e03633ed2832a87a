use Rattle.steps.specs.Numbers.{writer_in}
use Rattle.steps.proofs.read.Goals as goal

pub returns-clause-some : goal.returns-clause-some
unfolding writer_in
returns-clause-some c = (c.if-state-lt-STATE_LEN.false, cc)
