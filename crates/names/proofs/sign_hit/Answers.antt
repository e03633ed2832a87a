use Rattle.names.proofs.Rows.{hit_here, hit_on}
use Rattle.names.proofs.sign_hit.Goals as goal

pub returns-in-Some : goal.returns-in-Some
returns-in-Some c = search hit_here

pub returns : goal.returns
returns c = search (hit_on, c.key_hit.ensures)
