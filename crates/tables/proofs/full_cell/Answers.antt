use Rattle.tables.proofs.Parts.{cell_full}
use Rattle.tables.proofs.full_cell.Goals as goal

pub returns : goal.returns
returns c = search cell_full
