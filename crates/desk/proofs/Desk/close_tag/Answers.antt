use mathlib.Core.Path.{ap, ◌∙◌}
use Rattle.window.specs.Page.{paint}
use Rattle.desk.specs.Stroke.{ink}
use Rattle.desk.proofs.Chains.{paint_three}
use Rattle.desk.proofs.Strokes.{drew_one}
use Rattle.desk.proofs.Desk.close_tag.Goals as goal

pub returns : goal.returns
unfolding ink
returns c = drew_one _ _ _ (paint_three _ _ _ _ c.put_run.ensures (c.put_run-2.ensures ∙ ap (paint _) c.name.ensures) c.put_run-3.ensures)
