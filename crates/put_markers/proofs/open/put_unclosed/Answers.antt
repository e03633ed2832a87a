use Rattle.put_markers.proofs.Opens.{unclosed-some, unclosed-none}
use Rattle.put_markers.proofs.open.put_unclosed.Goals as goal

pub returns-then-ends_synthetic : goal.returns-then-ends_synthetic
returns-then-ends_synthetic c = search unclosed-some

pub returns-else-ends_synthetic : goal.returns-else-ends_synthetic
returns-else-ends_synthetic c = search unclosed-none
