use Rattle.inline_turns.proofs.Laws.{first-text, later-text}
use Rattle.inline_turns.proofs.note_text.Goals as goal

pub returns-then-is_first : goal.returns-then-is_first
returns-then-is_first c = search first-text

pub returns : goal.returns
returns c = search later-text
