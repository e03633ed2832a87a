use Rattle.window.proofs.Decimal.{left_start, left-turn, left_end}
use Rattle.window.proofs.digits_of.Goals as goal

pub loop-m-init : goal.loop-m-init
loop-m-init c = search left_start

pub loop-m-preserved : goal.loop-m-preserved
loop-m-preserved c = search left-turn

pub returns : goal.returns
returns c = search left_end
