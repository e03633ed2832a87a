use Rattle.source_index.proofs.Blocks.{ask_far}
use Rattle.source_index.proofs.next_near.Goals as goal

pub returns : goal.returns
returns c = search ask_far
