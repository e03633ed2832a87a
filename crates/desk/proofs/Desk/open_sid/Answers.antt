use mathlib.Core.Path.{refl}
use Rattle.desk.specs.Stroke.{ink, ink_all}
use Rattle.desk.proofs.Strokes.{drew_run}
use Rattle.desk.proofs.Desk.open_sid.Goals as goal

pub returns : goal.returns
unfolding ink ink_all
returns c = drew_run _ _ _ refl c.put_run.ensures
