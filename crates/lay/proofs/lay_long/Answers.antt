use native.Mathlib.Omega.{arith}
use Rattle.parts.proofs.Block.{long_start, long_turn, long_end}
use Rattle.lay.proofs.lay_long.Goals as goal

pub loop-i-init : goal.loop-i-init
loop-i-init c = (omega arith, search long_start)

pub loop-i-preserved : goal.loop-i-preserved
loop-i-preserved c = (
  omega arith,
  long_turn _ _ _ _ _ _ _ (omega arith) (omega arith) (omega arith) (omega arith) (omega arith) (omega arith) (omega arith) c.loop-i.invariant.1 c.copy.ensures c.copy-in-loop-i.ensures,
)

pub returns : goal.returns
returns c =
    long_end _ _ _ _ _ (omega arith) (omega arith) (omega arith) (omega arith) (omega arith) (omega arith) c.loop-i.invariant.1 c.copy-2.ensures c.copy-3.ensures
