use Rattle.roles.proofs.Roles.{role_known, role_unknown}
use Rattle.roles.proofs.role_of.Goals as goal

pub returns-in-Some : goal.returns-in-Some
returns-in-Some c = search role_known

pub returns-in-None : goal.returns-in-None
returns-in-None c = search role_unknown
