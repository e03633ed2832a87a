use Rattle.test_vectors.specs.Front.{by}
use Rattle.test_vectors.proofs.Fronts.{onward}
use Rattle.test_vectors.proofs.answers.pair.Goals as goal

pub returns : goal.returns
returns c = search (by, onward)
