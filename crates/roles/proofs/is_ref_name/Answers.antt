use Rattle.roles.proofs.Roles.{name_short, name-same}
use Rattle.roles.proofs.is_ref_name.Goals as goal

pub returns-else-text-ge3 : goal.returns-else-text-ge3
returns-else-text-ge3 c = search name_short

pub returns-then-text-ge3 : goal.returns-then-text-ge3
returns-then-text-ge3 c = search name-same
