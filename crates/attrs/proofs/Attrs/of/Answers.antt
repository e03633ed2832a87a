use Rattle.attrs.specs.Walk.{attrs_start}
use Rattle.attrs.proofs.Walks.{walk_starts}
use Rattle.attrs.proofs.Attrs.of.Goals as goal

pub returns : goal.returns
unfolding attrs_start
returns c = record { result_value = search walk_starts; value = rw c.first_child.ensures }
