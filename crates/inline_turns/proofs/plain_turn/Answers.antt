use Rattle.inline_turns.proofs.Laws.{plain_anchor, anchor_kept, next_anchor, trim_anchor, keeps_anchor, learnt_anchor, plain-words, turn-left, next-words, trim-words, keeps-words, learnt-words, plain_passed, next_passed, trim_passed, keeps_passed, learnt_passed, plain_skipped, next_skipped, trim_skipped, keeps_skipped, learnt_skipped}
use borrow.Author.Rules.{rules}
use Rattle.inline_turns.proofs.plain_turn.Goals as goal

pub returns-in-Anchor : goal.returns-in-Anchor
returns-in-Anchor c = record { next_after = search plain_anchor; kept_at = search anchor_kept; next_bound = search rules; next_value = search next_anchor; trim_value = search trim_anchor; kept_value = search keeps_anchor; behind_value = search learnt_anchor }

pub returns-in-Words : goal.returns-in-Words
returns-in-Words c = record { next_after = search plain-words; kept_at = search rules; next_bound = search turn-left; next_value = search next-words; trim_value = search trim-words; kept_value = search keeps-words; behind_value = search learnt-words }

pub returns-in-Passed : goal.returns-in-Passed
returns-in-Passed c = record { next_after = search plain_passed; kept_at = search rules; next_bound = search turn-left; next_value = search next_passed; trim_value = search trim_passed; kept_value = search keeps_passed; behind_value = search learnt_passed }

pub returns-in-Skipped : goal.returns-in-Skipped
returns-in-Skipped c = record { next_after = search plain_skipped; kept_at = search rules; next_bound = search turn-left; next_value = search next_skipped; trim_value = search trim_skipped; kept_value = search keeps_skipped; behind_value = search learnt_skipped }
