use Rattle.test_vectors.specs.Front.{by}
use Rattle.test_vectors.proofs.answers.yes_or_no.Goals as goal

pub returns : goal.returns
returns c = search by
