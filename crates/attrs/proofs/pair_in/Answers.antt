use Rattle.attrs.proofs.Walks.{in_none, in_pair}
use Rattle.attrs.proofs.pair_in.Goals as goal

pub returns-in_err-item : goal.returns-in_err-item
returns-in_err-item c = let a = c.args in rw c.from_residual.ensures (in_none a.source.now a.marker.now a.part c.next_pair.ensures (c.in_err-item.was))

pub returns : goal.returns
returns c = let a = c.args in in_pair a.source.now a.marker.now a.part c.next_pair.ensures c.key_for.result (c.in_ok-item.was) c.key_for.ensures
