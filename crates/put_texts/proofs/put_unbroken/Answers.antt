use Rattle.put_texts.proofs.Written.{unbroken-easy}
use Rattle.put_texts.proofs.put_unbroken.Goals as goal

pub returns-then-is_easy : goal.returns-then-is_easy
returns-then-is_easy c = search unbroken-easy
