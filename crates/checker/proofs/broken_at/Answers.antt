use Rattle.checker.proofs.Places.{look_start, look_turn}
use Rattle.checker.proofs.broken_at.Goals as goal

pub loop-at-init : goal.loop-at-init
loop-at-init c = look_start _ _ _ c.new-state.ensures

pub loop-at-preserved : goal.loop-at-preserved
loop-at-preserved c = look_turn _ _ _ c.loop-at-test.true _ _ (rw c.in-Some.is at c.next_at.ensures) _ _ c.step.ensures (c.breaks.ensures _) c.if-breaks.false c.loop-at.invariant
