use mathlib.Core.Path.{sym, ap, ◌∙◌}
use Rattle.window.specs.Page.{paint}
use Rattle.desk.specs.Stroke.{ink}
use Rattle.desk.proofs.Strokes.{drew_one}
use Rattle.desk.proofs.Desk.text_body.Goals as goal

pub returns : goal.returns
unfolding ink
returns c = λ t e. drew_one _ _ _ (c.put_framed.ensures ∙ ap (paint _) (sym e))
