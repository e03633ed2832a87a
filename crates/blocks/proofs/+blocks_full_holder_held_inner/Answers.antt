use borrow.Author.Rules.{rules}
use mathlib.Core.Path.{refl}
use Rattle.tape.proofs.Walk.{left-turn, left_behind}
use Rattle.blocks.proofs.Steps.{inner-zero, inner_deep, held_whole, held_full, held_bare, blocks_done, blocks_ended, blocks_skipped, blocks_side, blocks_peri, blocks_turned}
use Rattle.blocks.proofs.+blocks_full_holder_held_inner.Goals as goal

pub blocks-loop-step-init : goal.blocks-loop-step-init
blocks-loop-step-init t c = (refl, refl)

pub blocks-returns : goal.blocks-returns
blocks-returns t c = search blocks_done

pub blocks-returns-in-End : goal.blocks-returns-in-End
blocks-returns-in-End t c = search blocks_ended

pub blocks-loop-step-smaller-in-Skipped : goal.blocks-loop-step-smaller-in-Skipped
blocks-loop-step-smaller-in-Skipped t c = search left-turn

pub blocks-loop-step-preserved-in-Skipped : goal.blocks-loop-step-preserved-in-Skipped
blocks-loop-step-preserved-in-Skipped t c = (search blocks_skipped, search rules)

pub blocks-loop-step-smaller-in-Sidebar : goal.blocks-loop-step-smaller-in-Sidebar
blocks-loop-step-smaller-in-Sidebar t c = search left-turn

pub blocks-loop-step-preserved-in-Sidebar : goal.blocks-loop-step-preserved-in-Sidebar
blocks-loop-step-preserved-in-Sidebar t c = (search blocks_side, search rules)

pub blocks-loop-step-smaller-in-Periph : goal.blocks-loop-step-smaller-in-Periph
blocks-loop-step-smaller-in-Periph t c = search left-turn

pub blocks-loop-step-preserved-in-Periph : goal.blocks-loop-step-preserved-in-Periph
blocks-loop-step-preserved-in-Periph t c = (search blocks_peri, search rules)

pub blocks-loop-step-smaller : goal.blocks-loop-step-smaller
blocks-loop-step-smaller t c = search left_behind

pub blocks-loop-step-preserved : goal.blocks-loop-step-preserved
blocks-loop-step-preserved t c = (blocks_turned _ _ _ _ _ _ _ _ c.loop-step.invariant.0 (search rules) c.member_of.ensures (search rules) c.holder_of.ensures (search rules) _ _ c.block_turn-step.ensures.next_after, search rules)

pub full_holder-returns : goal.full_holder-returns
full_holder-returns t c = held_whole _ _ _ _ _ _ _ _ _ _ c.open_holder.ensures c.first_child.ensures c.inner.ensures c.close_holder.ensures

pub held-returns-then-has_block : goal.held-returns-then-has_block
held-returns-then-has_block t c = search held_full

pub held-returns-else-has_block : goal.held-returns-else-has_block
held-returns-else-has_block t c = search held_bare

pub inner-returns-then-depth_at-eq0 : goal.inner-returns-then-depth_at-eq0
inner-returns-then-depth_at-eq0 t c = search inner-zero

pub inner-returns : goal.inner-returns
inner-returns t c = search inner_deep
