use native.Mathlib.Omega.{arith}
use Rattle.put_body.proofs.Easy.{each_turn, each_stop, each_end}
use Rattle.put_body.proofs.hard_each.Goals as goal

pub returns-then-starts_hard : goal.returns-then-starts_hard
returns-then-starts_hard c = each_stop c.args.s.now c.loop-i.i (omega arith) c.starts_hard.ensures c.if-starts_hard.true c.loop-i.invariant

pub loop-i-preserved : goal.loop-i-preserved
loop-i-preserved c = each_turn c.args.s.now c.loop-i.i (omega arith) c.starts_hard.ensures c.if-starts_hard.false c.loop-i.invariant

pub returns : goal.returns
returns c = each_end c.args.s.now c.loop-i.i (omega arith) c.loop-i.invariant
