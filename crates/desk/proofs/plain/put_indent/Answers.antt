use Rattle.desk.proofs.Shown.{indent-turn, indent_start}
use Rattle.desk.proofs.plain.put_indent.Goals as goal

pub loop-init : goal.loop-init
loop-init c = indent_start _

pub loop-preserved : goal.loop-preserved
loop-preserved c = indent-turn _ _ c.loop.invariant c.put_run.ensures
