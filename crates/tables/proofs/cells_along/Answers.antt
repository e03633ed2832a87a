use mathlib.Core.Path.{refl}
use Rattle.tape.proofs.Walk.{left-turn}
use Rattle.tables.proofs.Parts.{cells_end, cells-turn, cells-past}
use borrow.Author.Rules.{rules}
use Rattle.tables.proofs.cells_along.Goals as goal

pub loop-step-init : goal.loop-step-init
loop-step-init c = (refl, refl)

pub returns : goal.returns
returns c = search cells_end

pub loop-step-smaller-then-is_cell : goal.loop-step-smaller-then-is_cell
loop-step-smaller-then-is_cell c = search left-turn

pub loop-step-preserved-then-is_cell : goal.loop-step-preserved-then-is_cell
loop-step-preserved-then-is_cell c = (search cells-turn, search rules)

pub loop-step-smaller : goal.loop-step-smaller
loop-step-smaller c = search left-turn

pub loop-step-preserved : goal.loop-step-preserved
loop-step-preserved c = (search cells-past, search rules)
