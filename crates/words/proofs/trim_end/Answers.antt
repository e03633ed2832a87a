use Rattle.words.proofs.Answers.{end_trimmed}
use Rattle.words.proofs.trim_end.Goals as goal

pub returns : goal.returns
returns c = search end_trimmed
