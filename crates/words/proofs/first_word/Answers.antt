use Rattle.words.proofs.Answers.{first_found}
use Rattle.words.proofs.first_word.Goals as goal

pub returns : goal.returns
returns c = search first_found
