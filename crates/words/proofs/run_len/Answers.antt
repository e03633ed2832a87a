use mathlib.Core.Path.{refl}
use native.Mathlib.Omega.{arith}
use Rattle.words.proofs.Turns.{front_fits, front_less, run-turn, run_stop, run_end, seen-turn, seen_stop}
use Rattle.words.proofs.run_len.Goals as goal

pub loop-at-init : goal.loop-at-init
loop-at-init c = omega arith

pub returns-then-white : goal.returns-then-white
returns-then-white c = search seen_stop

pub overflow_add-at : goal.overflow_add-at
overflow_add-at c = omega arith

pub loop-at-smaller-then-is_visible : goal.loop-at-smaller-then-is_visible
loop-at-smaller-then-is_visible c = omega arith

pub loop-at-preserved-then-is_visible : goal.loop-at-preserved-then-is_visible
loop-at-preserved-then-is_visible c = (omega arith, search seen-turn)

pub returns-then-c-white : goal.returns-then-c-white
returns-then-c-white c = search run_stop

pub overflow_add-at-else-is_visible : goal.overflow_add-at-else-is_visible
overflow_add-at-else-is_visible c = omega (arith, front_fits _ _ _ refl c.front_at-c.ensures c.loop-at-test.true)

pub loop-at-smaller : goal.loop-at-smaller
loop-at-smaller c = search front_less

pub loop-at-preserved : goal.loop-at-preserved
loop-at-preserved c = (search front_fits, search run-turn)

pub returns : goal.returns
returns c = search run_end
