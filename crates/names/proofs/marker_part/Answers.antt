use Rattle.names.proofs.Places.{very_le, marker-found}
use Rattle.names.proofs.marker_part.Goals as goal

pub overflow_sub-result : goal.overflow_sub-result
overflow_sub-result c = search very_le

pub returns : goal.returns
returns c = search marker-found
