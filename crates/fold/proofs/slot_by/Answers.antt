use Rattle.fold.proofs.Folding.{slot_alt, slot_pub, slot_none}
use Rattle.fold.proofs.slot_by.Goals as goal

pub returns-then-same : goal.returns-then-same
returns-then-same c = search slot_alt

pub returns-then-same-2 : goal.returns-then-same-2
returns-then-same-2 c = search slot_pub

pub returns-else-same-2 : goal.returns-else-same-2
returns-else-same-2 c = search slot_none
