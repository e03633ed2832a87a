use Rattle.checker.proofs.Whole.{going_turn, going_end}
use Rattle.checker.proofs.walk.Goals as goal

pub loop-at-preserved : goal.loop-at-preserved
loop-at-preserved c = going_turn _ _ c.loop-at-test.true _ _ (rw c.in-Some.is at c.next_at.ensures) _ _ c.step.ensures c.loop-at.invariant

pub returns : goal.returns
returns c = going_end _ _ _ c.loop-at-test.false (c.verdict.ensures _) c.loop-at.invariant
