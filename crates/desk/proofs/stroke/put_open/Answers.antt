use mathlib.Core.Path.{ap, ◌∙◌}
use Rattle.window.specs.Page.{paint}
use Rattle.window.proofs.Paint.{paint-two}
use Rattle.desk.specs.Stroke.{ink}
use Rattle.desk.proofs.stroke.put_open.Goals as goal

pub returns : goal.returns
unfolding ink
returns c = paint-two _ _ _ c.put_run.ensures (c.put_run-2.ensures ∙ ap (paint _) c.name.ensures)
