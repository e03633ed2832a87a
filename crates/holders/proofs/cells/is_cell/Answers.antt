use mathlib.Core.Path.{◌∙◌}
use borrow.Author.Tests.{ne_eqb}
use Rattle.holders.proofs.TableTags.{cell_known, cell-none}
use Rattle.holders.proofs.cells.is_cell.Goals as goal

pub returns-then-kind-eq-MARKER_OPEN : goal.returns-then-kind-eq-MARKER_OPEN
returns-then-kind-eq-MARKER_OPEN c = search cell_known

pub returns-else-kind-eq-MARKER_OPEN : goal.returns-else-kind-eq-MARKER_OPEN
returns-else-kind-eq-MARKER_OPEN c = ne_eqb _ 3 c.if-kind-eq-MARKER_OPEN.false ∙ search cell-none
