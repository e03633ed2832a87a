use Rattle.chars.proofs.Laws.{three_got, three_second}
use Rattle.chars.proofs.three.Goals as goal
use Rattle.chars.proofs.three.Goals.{else-second_of_three-via-then-second_of_three+else-is_tail, else-second_of_three-via-else-second_of_three}

pub returns-then-is_tail : goal.returns-then-is_tail
returns-then-is_tail c l h = rw (c.if-second_of_three.true, c.if-is_tail.true) at (three_got c.args.x c.args.y c.args.z l h c.second_of_three.ensures c.is_tail.ensures)

pub returns-else-second_of_three : goal.returns-else-second_of_three
returns-else-second_of_three c l h = elim c.else-second_of_three.branch [
  | else-second_of_three-via-then-second_of_three+else-is_tail w ↦
      rw (w.if-second_of_three.true, w.if-is_tail.false) at (three_got c.args.x c.args.y c.args.z l h c.second_of_three.ensures w.is_tail.ensures)
  | else-second_of_three-via-else-second_of_three w ↦ three_second c.args.x c.args.y c.args.z l h c.second_of_three.ensures w.if-second_of_three.false
]
