use Rattle.tables.proofs.Parts.{table_whole}
use Rattle.tables.proofs.table.Goals as goal

pub returns : goal.returns
returns c = search table_whole
