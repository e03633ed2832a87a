use Rattle.chars.proofs.Laws.{two_low, two_got}
use Rattle.chars.proofs.two.Goals as goal
use Rattle.chars.proofs.two.Goals.{else-x-ge194-via-then-x-ge194+else-is_tail, else-x-ge194-via-else-x-ge194}

pub returns-then-is_tail : goal.returns-then-is_tail
returns-then-is_tail c l h = rw c.if-is_tail.true at (two_got c.args.x c.args.y l h c.if-x-ge194.true c.is_tail.ensures)

pub returns-else-x-ge194 : goal.returns-else-x-ge194
returns-else-x-ge194 c l h = elim c.else-x-ge194.branch [
  | else-x-ge194-via-then-x-ge194+else-is_tail w ↦ rw w.if-is_tail.false at (two_got c.args.x c.args.y l h w.if-x-ge194.true w.is_tail.ensures)
  | else-x-ge194-via-else-x-ge194 w ↦ two_low c.args.x c.args.y l h w.if-x-ge194.false
]
