use Rattle.judge.proofs.NumberRule.{busy_limited, busy_room, busy_source}
use Rattle.judge.proofs.piece_number.Goals as goal

pub overflow_sub-w : goal.overflow_sub-w
overflow_sub-w c = search busy_source

pub size-requires : goal.size-requires
size-requires c = search busy_limited

pub overflow_sub-n : goal.overflow_sub-n
overflow_sub-n c = search busy_room
