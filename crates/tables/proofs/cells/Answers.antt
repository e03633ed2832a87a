use Rattle.tables.proofs.Parts.{cells-none, cells-all}
use Rattle.tables.proofs.cells.Goals as goal

pub returns-then-depth-eq0 : goal.returns-then-depth-eq0
returns-then-depth-eq0 c = search cells-none

pub returns : goal.returns
returns c = search cells-all
