use Rattle.words.proofs.Answers.{start_trimmed}
use Rattle.words.proofs.trim_start.Goals as goal

pub returns : goal.returns
returns c = search start_trimmed
