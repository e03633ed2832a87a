use Rattle.render.proofs.Notes.{remainder_of}
use Rattle.render.proofs.note.remainder.Goals as goal

pub returns : goal.returns
returns c = search remainder_of
