use mathlib.Core.Path.{◌≡◌}
use Rattle.tape.specs.File.{contents}
use Rattle.tape.specs.Tree.{left}
use Rattle.lists.specs.Span.{nodes_in}
use Rattle.render.specs.First.{any}
use Rattle.holders.specs.Holders.{is_block_or_row}
use Rattle.holders.proofs.has_block.Given as goal

abbrev pub invariant-loop-step : goal.invariant-loop-step
invariant-loop-step l = any (is_block_or_row (contents l.tape)) (nodes_in (contents l.tape) l.span l.step) ≡ any (is_block_or_row (contents l.tape)) (nodes_in (contents l.tape) l.span l.initial.step)

abbrev pub decreases-loop-step : goal.decreases-loop-step
decreases-loop-step l = left (contents l.tape) l.step
