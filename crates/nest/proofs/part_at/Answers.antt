use Rattle.nest.proofs.Tape.{node_self, node_opens, node-closes, node-leaf}
use Rattle.nest.proofs.part_at.Goals as goal

pub returns-then-link-i : goal.returns-then-link-i
returns-then-link-i c = search node_self

pub returns-else-link-i : goal.returns-else-link-i
returns-else-link-i c = search node_opens

pub returns-then-is_close : goal.returns-then-is_close
returns-then-is_close c = search node-closes

pub returns-else-is_close : goal.returns-else-is_close
returns-else-is_close c = search node-leaf
