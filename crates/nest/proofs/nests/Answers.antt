use Rattle.nest.proofs.Loop.{loop_start, no_root, loop_leaf, loop_open, loop_close, loop_full, loop_none, loop_other, loop_end}
use Rattle.nest.proofs.nests.Goals as goal
use Rattle.nest.proofs.nests.Goals.{in-Opens+else-top-eq-MOST_OPEN, in-Closes+else-top-eq0+else-awaited-top, in-Leaf}

pub returns-then-not-root_ends : goal.returns-then-not-root_ends
returns-then-not-root_ends c = search no_root

pub loop-at-init : goal.loop-at-init
loop-at-init c = search loop_start

pub returns-then-top-eq-MOST_OPEN : goal.returns-then-top-eq-MOST_OPEN
returns-then-top-eq-MOST_OPEN c = search loop_full

pub returns-then-top-eq0 : goal.returns-then-top-eq0
returns-then-top-eq0 c = search loop_none

pub returns-then-awaited-top : goal.returns-then-awaited-top
returns-then-awaited-top c = search loop_other

pub loop-at-preserved : goal.loop-at-preserved
loop-at-preserved c =
    elim c.match-part_at.branch [
      | in-Opens+else-top-eq-MOST_OPEN w ↦ rw (w.top-is, w.awaited-is) (search loop_open)
      | in-Closes+else-top-eq0+else-awaited-top w ↦ rw (w.top-is, w.awaited-is) (search loop_close)
      | in-Leaf w ↦ rw (w.top-is, w.awaited-is) (search loop_leaf)
    ]

pub returns : goal.returns
returns c = search loop_end
