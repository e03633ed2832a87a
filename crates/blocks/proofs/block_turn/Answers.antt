use Rattle.blocks.proofs.Places.{row_step, chapter-step, block-found, verse-step, drop-step, left-past, left-next, row-behind, chapter-behind, block-behind, verse-behind, drop-behind}
use borrow.Author.Rules.{rules}
use Rattle.blocks.proofs.block_turn.Goals as goal

pub returns-then-is_row : goal.returns-then-is_row
returns-then-is_row c = record { next_after = search row_step; next_bound = search left-past; next_value = search row-behind }

pub returns-then-kind-eq-CHAPTER : goal.returns-then-kind-eq-CHAPTER
returns-then-kind-eq-CHAPTER c = record { next_after = search chapter-step; next_bound = search rules; next_value = search chapter-behind }

pub returns-then-is_top_level_block : goal.returns-then-is_top_level_block
returns-then-is_top_level_block c = record { next_after = search block-found; next_bound = search rules; next_value = search block-behind }

pub returns-then-kind-eq-VERSE : goal.returns-then-kind-eq-VERSE
returns-then-kind-eq-VERSE c = record { next_after = search verse-step; next_bound = search rules; next_value = search verse-behind }

pub returns : goal.returns
returns c = record { next_after = search drop-step; next_bound = search left-next; next_value = search drop-behind }
