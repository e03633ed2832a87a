use Rattle.writer.proofs.StepRule.{piece-limited, piece-more, piece-room, piece_kept, piece_done}
use Rattle.writer.proofs.source.Goals as goal

pub returns-then-number-ne-DONE : goal.returns-then-number-ne-DONE
returns-then-number-ne-DONE c = search piece_kept

pub size-requires : goal.size-requires
size-requires c = search piece-limited

pub with_source-writer-requires : goal.with_source-writer-requires
with_source-writer-requires c = search piece-more

pub flow-requires : goal.flow-requires
flow-requires c =
    let all = piece-room c.args.w c.args.buf.now _ c.piece_number-number.ensures c.min-more.ensures c.if-number-ne-DONE.false in
    record { fits = all.0; piece_in_bounds = all.1 }

pub returns : goal.returns
returns c = search piece_done
