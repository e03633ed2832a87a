use Rattle.writer.proofs.StepRule.{entry-limited, entry_more, entry-room, entry_kept, entry_done}
use Rattle.writer.proofs.entry.Goals as goal

pub returns-then-number-ne-DONE : goal.returns-then-number-ne-DONE
returns-then-number-ne-DONE c = search entry_kept

pub size-requires : goal.size-requires
size-requires c = search entry-limited

pub with_entry-writer-requires : goal.with_entry-writer-requires
with_entry-writer-requires c = entry_more c.args.w c.args.buf.now _ _ c.entry_number-number.ensures c.min-more.ensures c.if-number-ne-DONE.false

pub enroll-requires : goal.enroll-requires
enroll-requires c =
    let all = entry-room c.args.w c.args.buf.now _ _ c.entry_number-number.ensures c.min-more.ensures c.if-number-ne-DONE.false in
    record { fits = all.0; nodes_value = all.1 }

pub returns : goal.returns
returns c = search entry_done
