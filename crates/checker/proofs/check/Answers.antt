use Rattle.checker.proofs.Whole.{not_opened, not_closed, in_form}
use Rattle.checker.proofs.Answers.{answered}
use Rattle.checker.proofs.check.Goals as goal
use Rattle.checker.proofs.check.Goals.{else-begins_with-via-then-begins_with+else-ends_with, else-begins_with-via-else-begins_with}

pub returns-then-ends_with : goal.returns-then-ends_with
returns-then-ends_with c =
    answered _ (in_form _ c.begins_with.ensures c.if-begins_with.true c.ends_with.ensures.value c.if-ends_with.true c.walk.ensures)

pub returns-else-begins_with : goal.returns-else-begins_with
returns-else-begins_with c = elim c.else-begins_with.branch [
  | else-begins_with-via-then-begins_with+else-ends_with w ↦
      answered _ (not_closed _ c.begins_with.ensures w.if-begins_with.true w.ends_with.ensures.value w.if-ends_with.false)
  | else-begins_with-via-else-begins_with w ↦ answered _ (not_opened _ c.begins_with.ensures w.if-begins_with.false)
]
