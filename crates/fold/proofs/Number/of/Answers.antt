use Rattle.fold.specs.Number.{number_start}
use Rattle.fold.proofs.Numbers.{number_starts}
use Rattle.fold.proofs.Number.of.Goals as goal

pub returns : goal.returns
unfolding number_start
returns c = record { result_value = search number_starts; value = rw c.first_child.ensures }
