use Rattle.put_texts.proofs.Written.{broken-split, broken_whole}
use Rattle.put_texts.proofs.put_hard.Goals as goal

pub returns-then-has_break : goal.returns-then-has_break
returns-then-has_break c = search broken-split

pub returns-else-has_break : goal.returns-else-has_break
returns-else-has_break c = search broken_whole
