use Rattle.names.proofs.Places.{open_id}
use Rattle.names.proofs.has_code.Goals as goal

pub returns-then-kind-eq-MARKER_OPEN : goal.returns-then-kind-eq-MARKER_OPEN
returns-then-kind-eq-MARKER_OPEN c = search open_id
