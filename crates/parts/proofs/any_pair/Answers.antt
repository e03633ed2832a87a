use native.Mathlib.Omega.{arith}
use Rattle.parts.proofs.Pairs.{any-turn, any_end}
use Rattle.parts.proofs.any_pair.Goals as goal

pub loop-i-preserved : goal.loop-i-preserved
loop-i-preserved g c p e =
    any-turn p c.args.s.now c.loop-i.i (omega arith) c.loop-i.found (omega arith) (e _ _ _ c.test-found.ensures) (c.loop-i.invariant p e)

pub returns : goal.returns
returns g c p e = any_end p c.args.s.now c.loop-i.i (omega arith) c.loop-i.found (omega arith) (c.loop-i.invariant p e)
