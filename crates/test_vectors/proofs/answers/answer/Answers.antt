use Rattle.test_vectors.proofs.Fronts.{from_front}
use Rattle.test_vectors.proofs.answers.answer.Goals as goal

pub returns : goal.returns
returns c = search from_front
