use mathlib.Core.Path.{refl}
use Rattle.tape.proofs.Walk.{left-turn}
use Rattle.put_attrs.proofs.Along.{first_is, first-other}
use Rattle.put_attrs.proofs.first_attribute.Goals as goal

pub loop-step-init : goal.loop-step-init
loop-step-init c = record { on = λ m. refl }

pub returns : goal.returns
returns c = search first_is

pub returns-then-kind-eq-ATTRIBUTE : goal.returns-then-kind-eq-ATTRIBUTE
returns-then-kind-eq-ATTRIBUTE c = search first_is

pub loop-step-smaller : goal.loop-step-smaller
loop-step-smaller c = search left-turn

pub loop-step-preserved : goal.loop-step-preserved
loop-step-preserved c = search first-other
