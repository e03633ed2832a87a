use Rattle.chars.proofs.Laws.{len-none, len_one, len-two, len_three, len-four}
use Rattle.chars.proofs.seq_len.Goals as goal

pub returns-then-s-eq0 : goal.returns-then-s-eq0
returns-then-s-eq0 c = search len-none

pub returns-then-x-lt128 : goal.returns-then-x-lt128
returns-then-x-lt128 c = search len_one

pub returns-then-x-lt224 : goal.returns-then-x-lt224
returns-then-x-lt224 c = search (len-two, c.two.ensures)

pub returns-then-x-lt240 : goal.returns-then-x-lt240
returns-then-x-lt240 c = search (len_three, c.three.ensures)

pub returns : goal.returns
returns c = search (len-four, c.four.ensures)
