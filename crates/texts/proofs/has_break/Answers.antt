use Rattle.texts.proofs.Breaks.{break_found}
use Rattle.texts.proofs.has_break.Goals as goal

pub returns : goal.returns
returns c = search break_found
