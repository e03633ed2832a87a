use Rattle.figure.proofs.Figures.{field_trimmed}
use Rattle.figure.proofs.field.Goals as goal

pub returns : goal.returns
returns c = search field_trimmed
