use Rattle.admit.proofs.LabelsRule.{clear_verse}
use Rattle.admit.proofs.labels.is_clear.Goals as goal

pub returns-else-kind-ne-VERSE : goal.returns-else-kind-ne-VERSE
returns-else-kind-ne-VERSE c = search clear_verse
