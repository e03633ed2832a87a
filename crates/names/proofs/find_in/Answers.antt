use Rattle.names.proofs.Nodes.{earlier_start, earlier_turn, found-broken, found_kept}
use Rattle.names.proofs.find_in.Goals as goal

pub loop-i-init : goal.loop-i-init
loop-i-init c = search earlier_start

pub returns-in-Some : goal.returns-in-Some
returns-in-Some c = search found-broken

pub loop-i-preserved : goal.loop-i-preserved
loop-i-preserved c = search earlier_turn

pub returns : goal.returns
returns c = search found_kept
