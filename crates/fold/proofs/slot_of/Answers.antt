use Rattle.fold.proofs.Folding.{slot_chapter, slot_verse, slot_wrong}
use Rattle.fold.proofs.slot_of.Goals as goal

pub returns-in-6 : goal.returns-in-6
returns-in-6 c = search slot_chapter

pub returns-in-7 : goal.returns-in-7
returns-in-7 c = search slot_verse

pub returns-in_default : goal.returns-in_default
returns-in_default c = search slot_wrong
