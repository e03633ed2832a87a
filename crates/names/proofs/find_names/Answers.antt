use Rattle.names.proofs.Nodes.{names-refused, names-searched}
use Rattle.names.proofs.find_names.Goals as goal

pub returns-in-Err : goal.returns-in-Err
returns-in-Err c = search names-refused

pub returns-in-Ok : goal.returns-in-Ok
returns-in-Ok c = search names-searched
