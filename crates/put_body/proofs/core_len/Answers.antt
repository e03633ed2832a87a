use native.Mathlib.Omega.{arith}
use Rattle.put_body.proofs.Ends.{front_fits, front_less, core_turn, edge_turn, core_start, core_end}
use Rattle.put_body.proofs.core_len.Goals as goal

pub loop-at-init : goal.loop-at-init
loop-at-init c = (omega arith, search core_start)

pub overflow_add-next : goal.overflow_add-next
overflow_add-next c = omega (arith, front_fits _ _ c.from.ensures.bytes c.first_front-c.ensures c.loop-at-test.true)

pub loop-at-smaller-then-not-c : goal.loop-at-smaller-then-not-c
loop-at-smaller-then-not-c c = search front_less

pub loop-at-preserved-then-not-c : goal.loop-at-preserved-then-not-c
loop-at-preserved-then-not-c c = (search front_fits, search core_turn)

pub loop-at-smaller : goal.loop-at-smaller
loop-at-smaller c = search front_less

pub loop-at-preserved : goal.loop-at-preserved
loop-at-preserved c = (search front_fits, search edge_turn)

pub returns : goal.returns
returns c = search core_end
