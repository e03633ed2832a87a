use native.Mathlib.Omega.{arith}
use Rattle.window.proofs.Escape.{plain_on, plain_fits, front_whole, front_plain}
use Rattle.window.proofs.plain_len.Goals as goal

pub returns-then-i-lt8 : goal.returns-then-i-lt8
returns-then-i-lt8 c = search (front_whole, arith)

pub slice_bounds-plain_long-count : goal.slice_bounds-plain_long-count
slice_bounds-plain_long-count c = (front_plain _ _ _ c.plain_each-i.ensures c.part.ensures.bytes c.if-i-lt8.false).within

pub slice_bounds-plain_long-start : goal.slice_bounds-plain_long-start
slice_bounds-plain_long-start c = (front_plain _ _ _ c.plain_each-i.ensures c.part.ensures.bytes c.if-i-lt8.false).within

pub overflow_add-result : goal.overflow_add-result
overflow_add-result c = omega (arith, plain_fits (front_plain _ _ _ c.plain_each-i.ensures c.part.ensures.bytes c.if-i-lt8.false) c.plain_long.ensures)

pub returns : goal.returns
returns c = plain_on (front_plain _ _ _ c.plain_each-i.ensures c.part.ensures.bytes c.if-i-lt8.false) c.plain_long.ensures
