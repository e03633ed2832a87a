use mathlib.Core.Path.{◌∙◌}
use Rattle.parts.proofs.Laws.{same-pointwise}
use Rattle.parts.proofs.same.Goals as goal

pub returns : goal.returns
returns c = c.eq.ensures ∙ same-pointwise c.args.a.now c.args.z.now
