use Rattle.inline_turns.proofs.Laws.{note-written, words_kept, note_words_trim, words-keeps, words-learnt}
use borrow.Author.Rules.{rules}
use Rattle.inline_turns.proofs.note_words.Goals as goal

pub returns : goal.returns
returns c = record { ks_after = search note-written; kept_at = search words_kept; next_value = search rules; trim_value = search note_words_trim; kept_value = search words-keeps; behind_value = search words-learnt }
