use Rattle.writer.proofs.StepRule.{took_idle, took_leaf, state_small}
use native.Mathlib.Omega.{arith}
use Rattle.std.proofs.lemmas.Bool.{not_from_true}
use Rattle.writer.proofs.leaf.Goals as goal

pub returns-then-not-is_limited : goal.returns-then-not-is_limited
returns-then-not-is_limited c = search took_idle

pub overflow_add-next : goal.overflow_add-next
overflow_add-next c = omega (arith, state_small _ c.is_limited.ensures (not_from_true _ c.if-not-is_limited.false))

pub overflow_cast-next : goal.overflow_cast-next
overflow_cast-next c = omega (arith, state_small _ c.is_limited.ensures (not_from_true _ c.if-not-is_limited.false))

pub returns : goal.returns
returns c = took_leaf _ _ _ (omega arith, omega arith) c.node_of-node.ensures c.put.ensures.value c.put.ensures.buf_after
