use Rattle.words.proofs.Answers.{trimmed}
use Rattle.words.proofs.trim.Goals as goal

pub returns : goal.returns
returns c = search trimmed
