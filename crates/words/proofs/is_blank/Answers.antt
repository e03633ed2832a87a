use mathlib.Core.Path.{◌∙◌}
use Rattle.words.proofs.Blank.{blank_found}
use Rattle.words.proofs.is_blank.Goals as goal

pub returns : goal.returns
returns c = c.is_empty.ensures ∙ blank_found c.args.set c.args.s.now c.trim_start.ensures
