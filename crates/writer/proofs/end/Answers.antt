use Rattle.writer.proofs.StepRule.{put_limited, close_depth, close-room, end_kept, end_same, end_done, end_laid}
use Rattle.writer.proofs.end.Goals as goal

pub returns-then-number-ne-DONE : goal.returns-then-number-ne-DONE
returns-then-number-ne-DONE c = record { value = search end_kept; buf_after = search end_same }

pub size-length-requires : goal.size-length-requires
size-length-requires c = search put_limited

pub overflow_sub-depth : goal.overflow_sub-depth
overflow_sub-depth c = search close_depth

pub shut-inner-requires : goal.shut-inner-requires
shut-inner-requires c =
    let all = close-room _ _ _ c.close_nest.ensures c.node_number-number.ensures c.if-number-ne-DONE.false in
    record { fits = all.0; w_in_bounds = all.1 }

pub returns : goal.returns
returns c = record { value = search end_done; buf_after = search end_laid }
