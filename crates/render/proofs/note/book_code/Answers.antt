use Rattle.render.proofs.Notes.{code_none, code_some}
use Rattle.render.proofs.note.book_code.Goals as goal

pub returns-in-Some : goal.returns-in-Some
returns-in-Some c = search code_some

pub returns-in-None : goal.returns-in-None
returns-in-None c = search code_none
