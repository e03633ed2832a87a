use Rattle.attrs.proofs.Walks.{at_other, at_attribute}
use Rattle.attrs.proofs.pair_at.Goals as goal

pub returns-then-kind-ne-ATTRIBUTE : goal.returns-then-kind-ne-ATTRIBUTE
returns-then-kind-ne-ATTRIBUTE c = search at_other

pub returns : goal.returns
returns c = search at_attribute
