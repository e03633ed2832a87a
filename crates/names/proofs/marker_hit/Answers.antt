use Rattle.names.proofs.Places.{marker-none, marker_tested}
use Rattle.names.proofs.marker_hit.Goals as goal

pub returns-then-not-bears_marker : goal.returns-then-not-bears_marker
returns-then-not-bears_marker c = search marker-none

pub returns : goal.returns
returns c = search marker_tested
