use Rattle.render.proofs.Notes.{trimmed_of}
use Rattle.render.proofs.note.trimmed.Goals as goal

pub returns : goal.returns
returns c = search trimmed_of
