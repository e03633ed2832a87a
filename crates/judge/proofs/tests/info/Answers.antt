use Rattle.judge.proofs.NodeRule.{info_known, info_unknown}
use Rattle.judge.proofs.tests.info.Goals as goal

pub returns-then-m-count : goal.returns-then-m-count
returns-then-m-count c = search info_known

pub returns-else-m-count : goal.returns-else-m-count
returns-else-m-count c = search info_unknown
