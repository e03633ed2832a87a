use Rattle.render.proofs.Notes.{caller_plus, caller_word}
use Rattle.render.proofs.note.note_caller.Goals as goal

pub returns-then-word-eq0 : goal.returns-then-word-eq0
returns-then-word-eq0 c = search caller_plus

pub returns : goal.returns
returns c = search caller_word
