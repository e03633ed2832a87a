use Rattle.inline_turns.proofs.Laws.{anchor_written, kept_here, anchor_left, anchor_next}
use borrow.Author.Rules.{rules}
use Rattle.inline_turns.proofs.anchor_turn.Goals as goal

pub returns : goal.returns
returns c = record { by_index = search anchor_written; kept_at = search kept_here; next_bound = search anchor_left; next_value = search anchor_next; trim_value = search rules; kept_value = search rules; behind_value = search rules }
