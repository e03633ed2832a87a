use native.Mathlib.Omega.{arith}
use Rattle.parts.proofs.Pairs.{each_stop, each_first, each_second, each_end}
use Rattle.parts.proofs.pair_each.Goals as goal
use Rattle.parts.proofs.pair_each.Goals.{else-s-i-via-then-s-i+else-s-i-2, else-s-i-via-else-s-i}

pub loop-i-init : goal.loop-i-init
loop-i-init c = (omega arith, omega arith)

pub returns-then-s-i-2 : goal.returns-then-s-i-2
returns-then-s-i-2 c = each_stop c.args.x c.args.s.now c.loop-i.i (omega arith) (omega arith) c.if-s-i.true c.if-s-i-2.true c.loop-i.invariant.1

pub loop-i-preserved : goal.loop-i-preserved
loop-i-preserved c = (
  omega arith,
  elim c.else-s-i.branch [
    | else-s-i-via-then-s-i+else-s-i-2 w ↦ each_second c.args.x c.args.s.now c.loop-i.i (omega arith) (omega arith) w.if-s-i-2.false c.loop-i.invariant.1
    | else-s-i-via-else-s-i w ↦ each_first c.args.x c.args.s.now c.loop-i.i (omega arith) (omega arith) w.if-s-i.false c.loop-i.invariant.1
  ],
)

pub returns : goal.returns
returns c = each_end c.args.x c.args.s.now c.loop-i.i (omega arith) (omega arith) c.loop-i.invariant.0 c.loop-i.invariant.1
