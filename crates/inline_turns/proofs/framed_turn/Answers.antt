use Rattle.inline_turns.proofs.Laws.{framed-written, framed-trim, framed-keeps, framed-learnt}
use borrow.Author.Rules.{rules}
use Rattle.inline_turns.proofs.framed_turn.Goals as goal

pub returns : goal.returns
returns c =
    let e = c.glance-w.ensures in
    record { ks_after = λ en. let g = e.follows_value en in search framed-written; kept_at = search rules; next_value = search rules; trim_value = λ en. let g = e.follows_value en in search framed-trim; kept_value = λ en. let g = e.kept_value en in search framed-keeps; behind_value = λ en. let g = e.behind_value en in search framed-learnt }
