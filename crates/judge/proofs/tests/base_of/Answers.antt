use Rattle.tape.proofs.Laws.{base_known, base_unknown}
use Rattle.judge.proofs.tests.base_of.Goals as goal

pub returns-in-Some : goal.returns-in-Some
returns-in-Some c = search base_known

pub returns-in-None : goal.returns-in-None
returns-in-None c = search base_unknown
