use Rattle.fold.proofs.Numbers.{text_placed, text-none}
use Rattle.fold.proofs.text_part.Goals as goal

pub returns-then-n-eq-TEXT : goal.returns-then-n-eq-TEXT
returns-then-n-eq-TEXT c = search text_placed

pub returns-else-n-eq-TEXT : goal.returns-else-n-eq-TEXT
returns-else-n-eq-TEXT c = search text-none
