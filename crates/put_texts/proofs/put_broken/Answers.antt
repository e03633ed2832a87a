use Rattle.put_texts.proofs.Written.{broken-easy}
use Rattle.put_texts.proofs.put_broken.Goals as goal

pub returns-then-is_easy : goal.returns-then-is_easy
returns-then-is_easy c = search broken-easy
