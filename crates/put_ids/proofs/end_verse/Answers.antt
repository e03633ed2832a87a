use Rattle.put_ids.proofs.Idents.{verse_shut, verse-ended}
use Rattle.put_ids.proofs.end_verse.Goals as goal

pub returns-in_default : goal.returns-in_default
returns-in_default c = search verse_shut

pub returns-in-Some : goal.returns-in-Some
returns-in-Some c = search verse-ended
