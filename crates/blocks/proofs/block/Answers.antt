use Rattle.blocks.proofs.Places.{block-step, left-next, behind-block}
use Rattle.blocks.proofs.block.Goals as goal

pub returns : goal.returns
returns c = record { by_index = search block-step; next_bound = search left-next; next_value = search behind-block }
