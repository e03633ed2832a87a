use Rattle.render.proofs.Notes.{leading_of}
use Rattle.render.proofs.note.leading_text.Goals as goal

pub returns : goal.returns
returns c = search leading_of
