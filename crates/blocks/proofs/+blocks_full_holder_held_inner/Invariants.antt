use mathlib.Core.Path.{◌≡◌}
use Prim.Native.Nat.{◌+◌, ◌*◌, ◌-◌}
use lib.ListN.{length}
use Rattle.tape.specs.File.{contents}
use Rattle.tape.specs.Tree.{left}
use Rattle.lists.specs.Span.{nodes_in}
use Rattle.events.specs.Emit.{emit_all}
use Rattle.events.specs.Walk.{blocks_all_of}
use Rattle.desk.specs.Desk.{desk_of}
use Rattle.tables.specs.Rows.{depth_at}
use Rattle.blocks.specs.Blocks.{uncut, below}
use Rattle.blocks.proofs.+blocks_full_holder_held_inner.Given as goal

abbrev pub decreases-blocks : goal.decreases-blocks
decreases-blocks l = 4 * (65 - l.level) + 3

abbrev pub decreases-full_holder : goal.decreases-full_holder
decreases-full_holder l = 4 * (65 - l.level) + 1

abbrev pub decreases-held : goal.decreases-held
decreases-held l = 4 * (65 - l.level) + 2

abbrev pub decreases-inner : goal.decreases-inner
decreases-inner l = 4 * (65 - l.level) + 0

abbrev pub invariant-blocks-loop-step : goal.invariant-blocks-loop-step
invariant-blocks-loop-step l = (emit_all (desk_of (contents l.book.tape).source l.desk l.out) (blocks_all_of (below (contents l.book.tape) (depth_at l.level) l.level) (contents l.book.tape) (depth_at l.level) l.level (nodes_in (contents l.book.tape) (uncut l.sifted) l.step)) ≡ emit_all (desk_of (contents l.book.tape).source l.initial.desk l.initial.out) (blocks_all_of (below (contents l.book.tape) (depth_at l.level) l.level) (contents l.book.tape) (depth_at l.level) l.level (nodes_in (contents l.book.tape) (uncut l.sifted) l.initial.step))) × (length l.out ≡ length l.initial.out)

abbrev pub decreases-blocks-loop-step : goal.decreases-blocks-loop-step
decreases-blocks-loop-step l = left (contents l.book.tape) l.step
