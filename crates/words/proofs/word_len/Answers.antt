use borrow.Author.Rules.{rules}
use Rattle.words.specs.First.{run_of}
use Rattle.words.proofs.word_len.Goals as goal

pub returns : goal.returns
unfolding run_of
returns c = search rules
