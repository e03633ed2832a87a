use Rattle.tape.proofs.Laws.{past_back, past-close, past_far, past_out, past-some}
use Rattle.tape.proofs.past.Goals as goal

pub returns-then-last-at : goal.returns-then-last-at
returns-then-last-at c = search past_back

pub returns-then-tape-last : goal.returns-then-tape-last
returns-then-tape-last c = search past_far

pub returns-then-tape-next : goal.returns-then-tape-next
returns-then-tape-next c = search past_out

pub returns-then-is_close : goal.returns-then-is_close
returns-then-is_close c = search past-close

pub returns-else-is_close : goal.returns-else-is_close
returns-else-is_close c = search past-some
