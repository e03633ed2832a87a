use Rattle.put_ids.proofs.Idents.{chapter_shut, chapter-ended}
use Rattle.put_ids.proofs.end_chapter.Goals as goal

pub returns-in_default : goal.returns-in_default
returns-in_default c = search chapter_shut

pub returns-in-Some : goal.returns-in-Some
returns-in-Some c = search chapter-ended
