use Rattle.inline_turns.proofs.Laws.{past_here, glance_text, glance_kept, glance_known}
use Rattle.inline_turns.proofs.glance.Goals as goal

pub returns-then-runs_at : goal.returns-then-runs_at
returns-then-runs_at c = record { follows_value = search glance_text; kept_at = search past_here; kept_value = search glance_kept; behind_value = search glance_known }

pub returns : goal.returns
returns c =
    let e = c.wait.ensures in
    record { follows_value = λ en. e.follows_value; kept_at = e.kept_at; kept_value = λ en. e.kept_value; behind_value = λ en. e.behind_value }
