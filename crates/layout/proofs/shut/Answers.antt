use borrow.Author.Rules.{rules}
use Rattle.layout.proofs.Moved.{shut_laid}
use Rattle.layout.proofs.shut.Goals as goal

pub returns : goal.returns
returns c = record { buf_after = search shut_laid; value = search rules }
