use Rattle.tables.proofs.Parts.{cell_with, cell-without}
use Rattle.tables.proofs.cell.Goals as goal

pub returns-then-has_content : goal.returns-then-has_content
returns-then-has_content c = search cell_with

pub returns-else-has_content : goal.returns-else-has_content
returns-else-has_content c = search cell-without
