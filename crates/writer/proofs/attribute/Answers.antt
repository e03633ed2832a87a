use Rattle.writer.proofs.StepRule.{took_plain}
use native.Mathlib.Omega.{arith}
use Rattle.writer.proofs.attribute.Goals as goal

pub returns : goal.returns
returns c = took_plain _ _ _ (omega arith, omega arith) c.node_of-node.ensures c.put.ensures.value c.put.ensures.buf_after
