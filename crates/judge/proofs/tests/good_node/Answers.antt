use Rattle.judge.proofs.NodeRule.{node_outside, node-inside}
use Rattle.judge.proofs.tests.good_node.Goals as goal

pub returns-then-not-good_span : goal.returns-then-not-good_span
returns-then-not-good_span c = search node_outside

pub returns : goal.returns
returns c = search node-inside
