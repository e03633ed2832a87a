use Rattle.put_attrs.proofs.Along.{first-none, first_on}
use Rattle.put_attrs.proofs.put_collected.Goals as goal

pub returns-in_default : goal.returns-in_default
returns-in_default c = search first-none

pub returns-in-Some : goal.returns-in-Some
returns-in-Some c = search first_on
