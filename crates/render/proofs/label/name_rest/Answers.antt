use Rattle.render.proofs.Labels.{rest-found}
use Rattle.render.proofs.label.name_rest.Goals as goal

pub returns : goal.returns
returns c = search rest-found
