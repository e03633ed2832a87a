use Rattle.chars.proofs.Laws.{four-none, four_got, four_second, four_third}
use Rattle.chars.proofs.four.Goals as goal
use Rattle.chars.proofs.four.Goals.{else-x-le244-via-then-x-le244+then-second_of_four+then-is_tail+else-is_tail-2, else-x-le244-via-then-x-le244+then-second_of_four+else-is_tail, else-x-le244-via-then-x-le244+else-second_of_four, else-x-le244-via-else-x-le244}

pub returns-then-is_tail-2 : goal.returns-then-is_tail-2
returns-then-is_tail-2 c l =
    rw (c.if-second_of_four.true, c.if-is_tail.true, c.if-is_tail-2.true)
    at (four_got c.args.x c.args.y c.args.z c.args.w l c.if-x-le244.true c.second_of_four.ensures c.is_tail.ensures c.is_tail-then-is_tail.ensures)

pub returns-else-x-le244 : goal.returns-else-x-le244
returns-else-x-le244 c l = elim c.else-x-le244.branch [
  | else-x-le244-via-then-x-le244+then-second_of_four+then-is_tail+else-is_tail-2 b ↦
      rw (b.if-second_of_four.true, b.if-is_tail.true, b.if-is_tail-2.false)
      at (four_got c.args.x c.args.y c.args.z c.args.w l b.if-x-le244.true b.second_of_four.ensures b.is_tail.ensures b.is_tail-then-is_tail.ensures)
  | else-x-le244-via-then-x-le244+then-second_of_four+else-is_tail b ↦
      four_third c.args.x c.args.y c.args.z c.args.w l b.if-x-le244.true b.second_of_four.ensures b.if-second_of_four.true b.is_tail.ensures b.if-is_tail.false
  | else-x-le244-via-then-x-le244+else-second_of_four b ↦
      four_second c.args.x c.args.y c.args.z c.args.w l b.if-x-le244.true b.second_of_four.ensures b.if-second_of_four.false
  | else-x-le244-via-else-x-le244 b ↦ four-none c.args.x c.args.y c.args.z c.args.w l b.if-x-le244.false
]
