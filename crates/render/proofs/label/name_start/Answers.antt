use native.Mathlib.Omega.{arith}
use Rattle.render.proofs.Labels.{start_found}
use Rattle.render.proofs.label.name_start.Goals as goal

pub returns : goal.returns
returns c = record { value = search start_found; upper_bound = omega arith }
