use Rattle.attrs.proofs.Walks.{next_less}
use Rattle.names.proofs.Keys.{onward_start, keys_end, keys_hit, keys_turn}
use Rattle.names.proofs.keys_hit.Goals as goal

pub loop-attribute-init : goal.loop-attribute-init
loop-attribute-init c = search onward_start

pub returns : goal.returns
returns c = search keys_end

pub returns-in-Some-test_key : goal.returns-in-Some-test_key
returns-in-Some-test_key c = search keys_hit

pub loop-attribute-smaller : goal.loop-attribute-smaller
loop-attribute-smaller c = search next_less

pub loop-attribute-preserved : goal.loop-attribute-preserved
loop-attribute-preserved c = search keys_turn
