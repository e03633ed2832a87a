use Rattle.tape.proofs.Laws.{element_known}
use Rattle.judge.proofs.NodeRule.{element-unknown}
use Rattle.judge.proofs.tests.element_of.Goals as goal

pub returns-in-Some : goal.returns-in-Some
returns-in-Some c = search element_known

pub returns-in-None : goal.returns-in-None
returns-in-None c = search element-unknown
