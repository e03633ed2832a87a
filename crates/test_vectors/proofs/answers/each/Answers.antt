use Rattle.test_vectors.proofs.Fronts.{still, onward}
use Rattle.test_vectors.proofs.answers.each.Goals as goal

pub loop-i-init : goal.loop-i-init
loop-i-init g c = still _

pub loop-i-preserved : goal.loop-i-preserved
loop-i-preserved g c = search onward
