use Rattle.std.proofs.Common.{sym, ◌∙◌, arith}
use borrow.Author.Tests.{eqb-true, eqb-false, le-ltb}
use Rattle.nest.proofs.Tape.{clash, ends_whole, ends_none, ends_last}
use Rattle.nest.proofs.root_ends.Goals as goal
use Rattle.nest.proofs.root_ends.Goals.{then-end-n-2, else-end-n-2}

pub returns-then-end-n : goal.returns-then-end-n
returns-then-end-n c = search ends_whole

pub returns-then-end-n-3 : goal.returns-then-end-n-3
returns-then-end-n-3 c =
    elim c.if-end-n-2.branch [
      | then-end-n-2 w ↦ let last = eqb-true _ _ (sym w.value-is ∙ c.if-end-n-3.true) in search ends_last
      | else-end-n-2 w ↦ absurd (clash c.if-end-n-3.true (w.value-is ∙ le-ltb _ _ w.if-end-n-2.false))
    ]

pub returns-else-end-n-3 : goal.returns-else-end-n-3
returns-else-end-n-3 c =
    ends_none _ _ c.root_link-end.ensures c.if-end-n.false
    (
    elim c.if-end-n-2.branch [
      | then-end-n-2 w ↦ eqb-false _ _ (sym w.value-is ∙ c.if-end-n-3.false)
      | else-end-n-2 w ↦ λ e. omega arith
    ]
    )
    c.if-end-n-3.false
