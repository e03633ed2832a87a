use Rattle.inline.proofs.Alone.{last-attribute, no_attribute}
use Rattle.inline.proofs.lone.is_last_attribute.Goals as goal

pub returns-then-kind-eq-ATTRIBUTE : goal.returns-then-kind-eq-ATTRIBUTE
returns-then-kind-eq-ATTRIBUTE c = search last-attribute

pub returns-else-kind-eq-ATTRIBUTE : goal.returns-else-kind-eq-ATTRIBUTE
returns-else-kind-eq-ATTRIBUTE c = search no_attribute
