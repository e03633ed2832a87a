use native.Mathlib.Omega.{arith}
use Rattle.put_body.proofs.Ends.{front_fits, front_less, soft-turn, soft_stop, soft_end}
use Rattle.put_body.proofs.soft_len.Goals as goal

pub returns-then-not-c : goal.returns-then-not-c
returns-then-not-c c = search soft_stop

pub overflow_add-at : goal.overflow_add-at
overflow_add-at c = omega (arith, front_fits _ _ c.from.ensures.bytes c.first_front-c.ensures c.loop-at-test.true)

pub loop-at-smaller : goal.loop-at-smaller
loop-at-smaller c = search front_less

pub loop-at-preserved : goal.loop-at-preserved
loop-at-preserved c = (search front_fits, search soft-turn)

pub returns : goal.returns
returns c = search soft_end
