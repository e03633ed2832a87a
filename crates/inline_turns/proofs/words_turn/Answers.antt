use mathlib.Core.Path.{◌∙◌}
use Rattle.inline_turns.proofs.Laws.{here_of}
use borrow.Author.Rules.{rules}
use Rattle.inline_turns.proofs.words_turn.Goals as goal

pub returns-then-is_framed : goal.returns-then-is_framed
returns-then-is_framed c =
    let e = c.framed_turn.ensures in
    record { ks_after = e.ks_after (search rules) (search here_of); kept_at = λ k. e.kept_at (search here_of) k (search rules); next_value = e.next_value ∙ search rules; trim_value = e.trim_value (search rules) (search here_of); kept_value = e.kept_value (search rules) (search here_of); behind_value = e.behind_value (search rules) (search here_of) }
