use mathlib.Core.Path.{sym, ◌∙◌}
use Rattle.window.proofs.Paint.{paint-two}
use Rattle.desk.proofs.Strokes.{drew_run, ink_attrs}
use Rattle.desk.proofs.Desk.attr_as_it_stands.Goals as goal

pub returns : goal.returns
returns c = λ qs es. drew_run _ _ _ (es ∙ sym (ink_attrs qs)) (paint-two _ _ _ c.put_run.ensures c.put_run-2.ensures)
