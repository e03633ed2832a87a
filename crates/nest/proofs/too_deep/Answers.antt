use Rattle.nest.proofs.Counted.{counted_start, counted_open, counted_close, counted_leaf, deep_yes, deep_no}
use Rattle.nest.proofs.too_deep.Goals as goal
use Rattle.nest.proofs.too_deep.Goals.{in-Opens, in-Closes, in-Leaf}

pub loop-i-init : goal.loop-i-init
loop-i-init c = counted_start _

pub returns-then-closes-opens : goal.returns-then-closes-opens
returns-then-closes-opens c = search deep_yes

pub loop-i-preserved : goal.loop-i-preserved
loop-i-preserved c =
    elim c.match-part_at.branch [
      | in-Opens w ↦ rw (w.opens-is, w.closes-is) (search counted_open)
      | in-Closes w ↦ rw (w.opens-is, w.closes-is) (search counted_close)
      | in-Leaf w ↦ rw (w.opens-is, w.closes-is) (search counted_leaf)
    ]

pub returns : goal.returns
returns c = search deep_no
