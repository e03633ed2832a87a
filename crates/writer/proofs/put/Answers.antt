use Rattle.writer.proofs.StepRule.{put_limited, put_room, put_kept, put_same, put_done, put_laid}
use Rattle.writer.proofs.put.Goals as goal

pub returns-then-number-ne-DONE : goal.returns-then-number-ne-DONE
returns-then-number-ne-DONE c = record { value = search put_kept; buf_after = search put_same }

pub size-length-requires : goal.size-length-requires
size-length-requires c = search put_limited

pub add-requires : goal.add-requires
add-requires c =
    let all = put_room _ _ _ _ c.node_number-number.ensures c.if-number-ne-DONE.false in
    record { fits = all.0; w_in_bounds = all.1 }

pub returns : goal.returns
returns c = record { value = search put_done; buf_after = search put_laid }
