use Rattle.std.proofs.Common.{◌∙◌}
use Rattle.steps.proofs.Calls.{phase_least}
use Rattle.steps.proofs.to_phase.Goals as goal

pub returns : goal.returns
returns c = c.min.ensures ∙ phase_least c.args.x
