use mathlib.Core.Path.{refl}
use Rattle.tape.proofs.Walk.{left-turn}
use Rattle.render.proofs.Finds.{find_end, find_hit, find-turn}
use Rattle.render.proofs.children.find.Goals as goal

pub loop-step-init : goal.loop-step-init
loop-step-init g c = λ test k. refl

pub returns-then-passes : goal.returns-then-passes
returns-then-passes g c = λ test k. search (find_hit, c.before.before.before.before.before.loop-step.invariant test k, k)

pub loop-step-smaller : goal.loop-step-smaller
loop-step-smaller g c = search left-turn

pub loop-step-preserved : goal.loop-step-preserved
loop-step-preserved g c = λ test k. search (find-turn, c.before.before.before.before.before.loop-step.invariant test k, k)

pub returns : goal.returns
returns g c = λ test k. search (find_end, c.before.before.loop-step.invariant test k)
