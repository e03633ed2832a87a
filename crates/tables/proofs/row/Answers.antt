use Rattle.tables.proofs.Parts.{row_whole}
use Rattle.tables.proofs.row.Goals as goal

pub returns : goal.returns
returns c = search row_whole
