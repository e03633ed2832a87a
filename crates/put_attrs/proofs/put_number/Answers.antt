use mathlib.Core.Path.{refl}
use native.Mathlib.Omega.{arith}
use Rattle.fold.proofs.Numbers.{number_less}
use Rattle.put_attrs.proofs.Written.{ahead_all}
use Rattle.put_attrs.proofs.Listed.{number_end, number-turn}
use Rattle.put_attrs.proofs.put_number.Goals as goal

pub loop-p-init : goal.loop-p-init
loop-p-init c = (ahead_all _, refl)

pub returns : goal.returns
returns c = search number_end

pub loop-p-smaller : goal.loop-p-smaller
loop-p-smaller c = search number_less

pub loop-p-preserved : goal.loop-p-preserved
loop-p-preserved c = (search number-turn, omega arith)
