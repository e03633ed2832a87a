use Rattle.steps.proofs.Calls.{stored_kept, stored_done}
use Rattle.steps.proofs.store.Goals as goal
use Rattle.steps.proofs.store.Goals.{then-r-eq0, else-r-eq0}

pub returns-clause-state_after : goal.returns-clause-state_after
returns-clause-state_after c =
    elim c.if-r-eq0.branch [
      | then-r-eq0 w ↦ rw w.state-is (search stored_done)
      | else-r-eq0 w ↦ rw w.state-is (search stored_kept)
    ]
