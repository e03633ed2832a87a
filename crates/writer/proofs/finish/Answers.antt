use Rattle.writer.proofs.StepRule.{finish_limited, finish_room, finish_kept, finish_done}
use Rattle.writer.proofs.finish.Goals as goal

pub returns-then-number-ne-DONE : goal.returns-then-number-ne-DONE
returns-then-number-ne-DONE c = search finish_kept

pub size-length-requires : goal.size-length-requires
size-length-requires c = search finish_limited

pub close_up-requires : goal.close_up-requires
close_up-requires c = search finish_room

pub returns : goal.returns
returns c = search finish_done
