use mathlib.Core.Path.{refl}
use Rattle.desk.specs.Stroke.{ink, ink_all}
use Rattle.desk.proofs.Chains.{paint-four}
use Rattle.desk.proofs.Strokes.{drew_run}
use Rattle.desk.proofs.Desk.open_styled.Goals as goal

pub returns : goal.returns
unfolding ink ink_all
returns c = drew_run _ _ _ refl (paint-four _ _ _ _ _ c.put_open.ensures c.put_run.ensures c.put_run-2.ensures c.put_run-3.ensures)
