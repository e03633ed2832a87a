use Rattle.chars.proofs.Laws.{boundary_at, boundary_past}
use Rattle.chars.proofs.is_boundary.Goals as goal

pub returns-then-at-s : goal.returns-then-at-s
returns-then-at-s c = search boundary_at

pub returns-else-at-s : goal.returns-else-at-s
returns-else-at-s c = search boundary_past
