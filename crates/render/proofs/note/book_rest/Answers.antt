use Rattle.render.proofs.Notes.{rest_of}
use Rattle.render.proofs.note.book_rest.Goals as goal

pub returns : goal.returns
returns c = search rest_of
