use mathlib.Core.Path.{refl}
use native.Mathlib.Omega.{arith}
use Rattle.words.proofs.Ends.{visible_whole}
use Rattle.words.proofs.Turns.{front_fits, front_less, solid-turn, white-turn, solid_start, solid_end}
use Rattle.words.proofs.solid_chars.Goals as goal

pub returns-then-ends_visible : goal.returns-then-ends_visible
returns-then-ends_visible c = search visible_whole

pub loop-at-init : goal.loop-at-init
loop-at-init c = (omega arith, search solid_start)

pub overflow_add-next : goal.overflow_add-next
overflow_add-next c = omega (arith, front_fits _ _ _ refl c.front_at-c.ensures c.loop-at-test.true)

pub loop-at-smaller-then-not-c : goal.loop-at-smaller-then-not-c
loop-at-smaller-then-not-c c = search front_less

pub loop-at-preserved-then-not-c : goal.loop-at-preserved-then-not-c
loop-at-preserved-then-not-c c = (search front_fits, search solid-turn)

pub loop-at-smaller : goal.loop-at-smaller
loop-at-smaller c = search front_less

pub loop-at-preserved : goal.loop-at-preserved
loop-at-preserved c = (search front_fits, search white-turn)

pub returns : goal.returns
returns c = search solid_end
