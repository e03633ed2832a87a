use Rattle.tape.proofs.Laws.{sections_made}
use Rattle.tape.proofs.Sections.of.Goals as goal

pub returns : goal.returns
returns c = search sections_made
