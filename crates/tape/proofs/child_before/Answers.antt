use Rattle.tape.proofs.Laws.{before_back, before_none, before_out, before_some}
use Rattle.tape.proofs.child_before.Goals as goal

pub returns-then-link-at : goal.returns-then-link-at
returns-then-link-at c = search before_back

pub returns-then-link-next : goal.returns-then-link-next
returns-then-link-next c = search before_none

pub returns-then-next-nodes : goal.returns-then-next-nodes
returns-then-next-nodes c = search before_some

pub returns-else-next-nodes : goal.returns-else-next-nodes
returns-else-next-nodes c = search before_out
