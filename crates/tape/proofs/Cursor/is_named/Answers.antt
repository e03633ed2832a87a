use Rattle.tape.proofs.NameRule.{same_as}
use Rattle.tape.proofs.Cursor.is_named.Goals as goal

pub returns : goal.returns
returns c = search same_as
