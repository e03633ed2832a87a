use Rattle.put_attrs.proofs.Listed.{number_missing, number-written}
use Rattle.put_attrs.proofs.put_numbered.Goals as goal

pub returns-in_default : goal.returns-in_default
returns-in_default c = search number_missing

pub returns-in-Some : goal.returns-in-Some
returns-in-Some c = search number-written
