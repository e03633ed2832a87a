use mathlib.Core.Path.{refl}
use native.Mathlib.Omega.{arith}
use Rattle.tape.proofs.Walk.{left-turn}
use Rattle.put_attrs.proofs.Written.{ahead_all}
use Rattle.put_attrs.proofs.Along.{along_end, along-hard, along-other, along_barred}
use Rattle.put_attrs.proofs.put_from.Goals as goal

pub loop-step-init : goal.loop-step-init
loop-step-init c = (ahead_all _, refl)

pub returns : goal.returns
returns c = search along_end

pub returns-then-not-is_barred : goal.returns-then-not-is_barred
returns-then-not-is_barred c = search along-hard

pub loop-step-smaller-then-kind-eq-ATTRIBUTE : goal.loop-step-smaller-then-kind-eq-ATTRIBUTE
loop-step-smaller-then-kind-eq-ATTRIBUTE c = search left-turn

pub loop-step-preserved-then-kind-eq-ATTRIBUTE : goal.loop-step-preserved-then-kind-eq-ATTRIBUTE
loop-step-preserved-then-kind-eq-ATTRIBUTE c = (search along_barred, omega arith)

pub loop-step-smaller : goal.loop-step-smaller
loop-step-smaller c = search left-turn

pub loop-step-preserved : goal.loop-step-preserved
loop-step-preserved c = (search along-other, omega arith)
