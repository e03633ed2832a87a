use Rattle.blocks.proofs.Places.{verse-turn, left-past, behind-run}
use Rattle.blocks.proofs.verse_run.Goals as goal

pub returns : goal.returns
returns c = record { next_after = search verse-turn; next_bound = search left-past; next_value = search behind-run }
