use Rattle.window.proofs.Run.{paint-turn, paint_end}
use Rattle.window.proofs.Window.put_each.Goals as goal

pub loop-x-preserved : goal.loop-x-preserved
loop-x-preserved c = search paint-turn

pub returns : goal.returns
returns c = search paint_end
