use Rattle.std.proofs.Common.{sym, ◌∙◌}
use borrow.Author.Tests.{le-leb, ltb-false}
use Rattle.nest.proofs.Tape.{clash}
use Rattle.judge.proofs.NumberRule.{busy_limited, busy_room, busy_names, busy_named}
use Rattle.judge.proofs.entry_number.Goals as goal
use Rattle.judge.proofs.entry_number.Goals.{then-w-ge-MOST_ENTRIES, else-w-ge-MOST_ENTRIES}

pub overflow_sub-w : goal.overflow_sub-w
overflow_sub-w c = let busy = c.if-w-ne0.false.0 in search busy_names

pub good_entry-requires : goal.good_entry-requires
good_entry-requires c =
    let busy = c.if-w-ne0.false.0 in
    elim c.if-w-ge-MOST_ENTRIES.branch [
      | then-w-ge-MOST_ENTRIES w ↦ absurd (clash (w.value-is ∙ le-leb _ _ w.if-w-ge-MOST_ENTRIES.true) c.if-s-w.false)
      | else-w-ge-MOST_ENTRIES w ↦ let fits = ltb-false _ _ (sym w.value-is ∙ c.if-s-w.false) in search busy_named
    ]

pub size-requires : goal.size-requires
size-requires c = let busy = c.if-w-ne0.false.0 in search busy_limited

pub overflow_sub-n : goal.overflow_sub-n
overflow_sub-n c = let busy = c.if-w-ne0.false.0 in search busy_room
