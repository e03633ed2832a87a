use Rattle.tape.proofs.NameRule.{entry_known, entry-unknown}
use Rattle.tape.proofs.Cursor.has_entry.Goals as goal

pub returns-in-Some : goal.returns-in-Some
returns-in-Some c = search entry_known

pub returns-in-None : goal.returns-in-None
returns-in-None c = search entry-unknown
