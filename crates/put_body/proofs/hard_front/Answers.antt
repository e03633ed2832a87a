use native.Mathlib.Omega.{arith}
use Rattle.put_body.proofs.Tight.{front_turn, front_stop, front_end, front_done}
use Rattle.put_body.proofs.hard_front.Goals as goal

pub returns-then-hard_block : goal.returns-then-hard_block
returns-then-hard_block c = search front_stop

pub loop-i-preserved : goal.loop-i-preserved
loop-i-preserved c = search front_turn

pub returns-else-hard_block : goal.returns-else-hard_block
returns-else-hard_block c = front_end _ _ _ c.from.ensures.bytes c.hard_block.ensures (omega arith) c.if-hard_block.false c.loop-i.invariant

pub returns : goal.returns
returns c = front_done c.args.s.now c.args.n c.loop-i.i (omega arith) c.loop-i.invariant
