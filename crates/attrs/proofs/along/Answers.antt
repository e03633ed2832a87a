use mathlib.Core.Path.{refl}
use Rattle.tape.proofs.Walk.{left-turn}
use Rattle.attrs.proofs.Walks.{along_end, along_on, along-found}
use Rattle.attrs.proofs.along.Goals as goal

pub loop-step-init : goal.loop-step-init
loop-step-init c = refl

pub returns : goal.returns
returns c = search along_end

pub loop-step-smaller : goal.loop-step-smaller
loop-step-smaller c = search left-turn

pub loop-step-preserved : goal.loop-step-preserved
loop-step-preserved c = search along_on

pub returns-in-Some-pair_at : goal.returns-in-Some-pair_at
returns-in-Some-pair_at c = search along-found
