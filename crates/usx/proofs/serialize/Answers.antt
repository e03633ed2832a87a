use Rattle.usx.proofs.Answers.{refused, written, no_room}
use Rattle.usx.proofs.serialize.Goals as goal

pub returns-in-Err : goal.returns-in-Err
returns-in-Err c = search refused

pub returns-then-n-out : goal.returns-then-n-out
returns-then-n-out c = search written

pub returns-else-n-out : goal.returns-else-n-out
returns-else-n-out c = search no_room
