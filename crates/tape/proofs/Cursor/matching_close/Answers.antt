use Rattle.tape.proofs.Laws.{close_of, close-none}
use Rattle.tape.proofs.Cursor.matching_close.Goals as goal

pub returns-then-kind-eq-MARKER_OPEN : goal.returns-then-kind-eq-MARKER_OPEN
returns-then-kind-eq-MARKER_OPEN c = search close_of

pub returns-else-kind-eq-MARKER_OPEN : goal.returns-else-kind-eq-MARKER_OPEN
returns-else-kind-eq-MARKER_OPEN c = search close-none
