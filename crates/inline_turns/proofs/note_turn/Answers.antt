use Rattle.inline_turns.proofs.Laws.{note_turn_words, turn-left, note_trim_words, note_keeps_words, note_learnt_words, note_turn_passed, note_trim_passed, note_keeps_passed, note_learnt_passed, note_turn_anchor, note_trim_anchor, note_keeps_anchor, note_learnt_anchor, note_turn_skipped, note_trim_skipped, note_keeps_skipped, note_learnt_skipped}
use borrow.Author.Rules.{rules}
use Rattle.inline_turns.proofs.note_turn.Goals as goal

pub returns-in-Words : goal.returns-in-Words
returns-in-Words c = record { next_after = search note_turn_words; kept_at = search rules; next_bound = search turn-left; next_value = search rules; trim_value = search note_trim_words; kept_value = search note_keeps_words; behind_value = search note_learnt_words }

pub returns-in-Passed : goal.returns-in-Passed
returns-in-Passed c = record { next_after = search note_turn_passed; kept_at = search rules; next_bound = search turn-left; next_value = search rules; trim_value = search note_trim_passed; kept_value = search note_keeps_passed; behind_value = search note_learnt_passed }

pub returns-in-Anchor : goal.returns-in-Anchor
returns-in-Anchor c = record { next_after = search note_turn_anchor; kept_at = search rules; next_bound = search turn-left; next_value = search rules; trim_value = search note_trim_anchor; kept_value = search note_keeps_anchor; behind_value = search note_learnt_anchor }

pub returns-in-Skipped : goal.returns-in-Skipped
returns-in-Skipped c = record { next_after = search note_turn_skipped; kept_at = search rules; next_bound = search turn-left; next_value = search rules; trim_value = search note_trim_skipped; kept_value = search note_keeps_skipped; behind_value = search note_learnt_skipped }
