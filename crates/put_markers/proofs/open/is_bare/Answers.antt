use Rattle.put_attrs.proofs.Along.{bare-empty, bare-text}
use Rattle.put_markers.proofs.open.is_bare.Goals as goal

pub returns-then-kind-eq-TEXT : goal.returns-then-kind-eq-TEXT
returns-then-kind-eq-TEXT c = search bare-text

pub returns-in-None : goal.returns-in-None
returns-in-None c = λ _. search bare-empty
