use Rattle.inline_turns.proofs.Laws.{words-written, words_kept, words-trim, words-keeps, words-learnt}
use borrow.Author.Rules.{rules}
use Rattle.inline_turns.proofs.worded_turn.Goals as goal

pub returns : goal.returns
returns c = record { ks_after = search words-written; kept_at = search words_kept; next_value = search rules; trim_value = search words-trim; kept_value = search words-keeps; behind_value = search words-learnt }
