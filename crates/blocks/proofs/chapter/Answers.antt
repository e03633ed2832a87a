use Rattle.blocks.proofs.Places.{chapter-turn, left-past, behind-chapter}
use Rattle.blocks.proofs.chapter.Goals as goal

pub returns : goal.returns
returns c = record { by_index = search chapter-turn; next_bound = search left-past; next_value = search behind-chapter }
