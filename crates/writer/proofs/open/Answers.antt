use Rattle.writer.proofs.StepRule.{took_idle, took_opens, state_small}
use native.Mathlib.Omega.{arith}
use Rattle.std.proofs.lemmas.Bool.{not_from_true}
use Rattle.writer.proofs.open.Goals as goal

pub returns-then-not-is_limited : goal.returns-then-not-is_limited
returns-then-not-is_limited c = search took_idle

pub overflow_cast-around : goal.overflow_cast-around
overflow_cast-around c = omega (arith, state_small _ c.is_limited.ensures (not_from_true _ c.if-not-is_limited.false))

pub overflow_add-w : goal.overflow_add-w
overflow_add-w c = omega (arith, state_small _ c.is_limited.ensures (not_from_true _ c.if-not-is_limited.false))

pub overflow_add-w-2 : goal.overflow_add-w-2
overflow_add-w-2 c = omega (arith, state_small _ c.is_limited.ensures (not_from_true _ c.if-not-is_limited.false))

pub returns : goal.returns
returns c = took_opens _ _ _ (omega arith, omega arith) c.node_of-node.ensures c.open_nest.ensures c.put.ensures.value c.put.ensures.buf_after
