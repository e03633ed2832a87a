use Rattle.render.proofs.Notes.{text-none, text-some}
use Rattle.render.proofs.note.text_of.Goals as goal

pub returns-in-Some : goal.returns-in-Some
returns-in-Some c = search text-some

pub returns-in-None : goal.returns-in-None
returns-in-None c = search text-none
