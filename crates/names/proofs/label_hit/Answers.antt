use Rattle.names.proofs.Places.{label_none, label_tested}
use Rattle.names.proofs.label_hit.Goals as goal

pub returns-then-kind-ne-VERSE : goal.returns-then-kind-ne-VERSE
returns-then-kind-ne-VERSE c = search label_none

pub returns : goal.returns
returns c = search label_tested
