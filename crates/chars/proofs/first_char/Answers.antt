use Rattle.chars.proofs.Laws.{first-none, first-odd, first_one, first_two, first_three, first-four}
use Rattle.chars.proofs.first_char.Goals as goal

pub returns-then-s-eq0 : goal.returns-then-s-eq0
returns-then-s-eq0 c = search first-none

pub returns-in-0 : goal.returns-in-0
returns-in-0 c = search first-odd

pub returns-in-1 : goal.returns-in-1
returns-in-1 c = search first_one

pub returns-in-2 : goal.returns-in-2
returns-in-2 c = search first_two

pub returns-in-3 : goal.returns-in-3
returns-in-3 c = search first_three

pub returns-in_default : goal.returns-in_default
returns-in_default c = search first-four
