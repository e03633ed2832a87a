use Rattle.std.proofs.Common.{sym, ◌∙◌}
use borrow.Author.Tests.{le-leb}
use Rattle.nest.proofs.Tape.{clash}
use Rattle.judge.proofs.NodeRule.{label_word}
use Rattle.judge.proofs.tests.good_label.Goals as goal
use Rattle.judge.proofs.tests.good_label.Goals.{then-name-base, else-name-base}

pub returns-else-is_boundary : goal.returns-else-is_boundary
returns-else-is_boundary c =
    elim c.if-name-base.branch [
      | then-name-base w ↦ absurd (clash (w.value-is ∙ le-leb _ _ w.if-name-base.true) c.if-is_boundary.false)
      | else-name-base w ↦ let split = sym w.value-is ∙ c.if-is_boundary.false in search label_word
    ]
