use native.Mathlib.Omega.{arith}
use lib.ListN.{length-set}
use Rattle.steps.proofs.Calls.{kept_made}
use Rattle.steps.proofs.keep.Goals as goal

pub bounds-state-1 : goal.bounds-state-1
bounds-state-1 c = simp length-set (omega arith)

pub bounds-state-2 : goal.bounds-state-2
bounds-state-2 c = simp length-set (omega arith)

pub bounds-state-3 : goal.bounds-state-3
bounds-state-3 c = simp length-set (omega arith)

pub bounds-state-4 : goal.bounds-state-4
bounds-state-4 c = simp length-set (omega arith)

pub bounds-state-5 : goal.bounds-state-5
bounds-state-5 c = simp length-set (omega arith)

pub bounds-state-6 : goal.bounds-state-6
bounds-state-6 c = simp length-set (omega arith)

pub returns : goal.returns
returns c = cc (kept_made c.args.state.now c.args.w c.requires)
