use Rattle.inline_turns.proofs.Laws.{look_inline, look_asked, look_unasked, look_past, kept_solid, behind-solid, behind-past, text-solid, text-inline, text_asked, follows_learnt}
use Rattle.inline_turns.proofs.wait.Goals as goal

pub returns-then-inline_at : goal.returns-then-inline_at
returns-then-inline_at c = record { follows_value = search look_inline; kept_at = search kept_solid; kept_value = search behind-solid; behind_value = search text-inline }

pub returns-then-ends : goal.returns-then-ends
returns-then-ends c = record { follows_value = search (look_asked, follows_learnt); kept_at = search kept_solid; kept_value = search behind-solid; behind_value = search text_asked }

pub returns : goal.returns
returns c = record { follows_value = search look_unasked; kept_at = search look_past; kept_value = search behind-past; behind_value = search text-solid }
