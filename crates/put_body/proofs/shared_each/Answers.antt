use native.Mathlib.Omega.{arith}
use Rattle.put_body.proofs.Tests.{shared-turn, shared_stop, shared_end}
use Rattle.put_body.proofs.shared_each.Goals as goal

pub returns-then-differs_here : goal.returns-then-differs_here
returns-then-differs_here c = shared_stop c.args.s.now c.loop-i.i (omega arith) c.differs_here.ensures c.if-differs_here.true c.loop-i.invariant

pub loop-i-preserved : goal.loop-i-preserved
loop-i-preserved c = shared-turn c.args.s.now c.loop-i.i (omega arith) c.differs_here.ensures c.if-differs_here.false c.loop-i.invariant

pub returns : goal.returns
returns c = shared_end c.args.s.now c.loop-i.i (omega arith) (omega arith) c.loop-i.invariant
