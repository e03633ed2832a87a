use Rattle.render.proofs.Follows.{runs_solid, runs_inline}
use Rattle.render.proofs.follow.runs_on.Goals as goal

pub returns-in-Some : goal.returns-in-Some
returns-in-Some c = record { at_value = search runs_solid; at_value_2 = λ e. search runs_inline }
