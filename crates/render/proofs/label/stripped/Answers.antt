use native.Mathlib.Omega.{arith}
use Rattle.render.proofs.Labels.{stripped_none, stripped_one}
use Rattle.render.proofs.label.stripped.Goals as goal

pub returns-then-begins_with : goal.returns-then-begins_with
returns-then-begins_with c = record { value = search stripped_one; upper_bound = omega arith }

pub returns-else-begins_with : goal.returns-else-begins_with
returns-else-begins_with c = record { value = search stripped_none; upper_bound = omega arith }
