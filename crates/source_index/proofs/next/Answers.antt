use Rattle.source_index.proofs.Blocks.{ask_own}
use Rattle.source_index.proofs.next.Goals as goal

pub returns-then-i-p : goal.returns-then-i-p
returns-then-i-p c = search ask_own
