use Rattle.source_index.proofs.Firsts.{look_found, look_turn}
use Rattle.source_index.proofs.look.Goals as goal

pub returns-then-passes : goal.returns-then-passes
returns-then-passes c = search look_found

pub loop-at-preserved : goal.loop-at-preserved
loop-at-preserved c = search look_turn
