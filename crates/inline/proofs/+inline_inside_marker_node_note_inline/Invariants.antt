use mathlib.Core.Path.{◌≡◌}
use Prim.Native.Nat.{◌+◌, ◌*◌}
use lib.ListN.{length}
use Rattle.tape.specs.File.{contents}
use Rattle.tape.specs.Tree.{walk_from, left}
use Rattle.lists.specs.Span.{nodes_in}
use Rattle.events.specs.Walk.{node_in_of, inside as inside_of, inline_all, note_all}
use Rattle.events.specs.Emit.{emit_all}
use Rattle.desk.specs.Desk.{desk_of}
use Rattle.inline_turns.specs.Turn.{KeptAt, behind_of}
use Rattle.inline.proofs.+inline_inside_marker_node_note_inline.Given as goal

abbrev pub decreases-inline : goal.decreases-inline
decreases-inline l = 4 * l.depth + 3

abbrev pub decreases-inside : goal.decreases-inside
decreases-inside l = 4 * l.depth + 0

abbrev pub decreases-marker : goal.decreases-marker
decreases-marker l = 4 * l.depth + 1

abbrev pub decreases-node : goal.decreases-node
decreases-node l = 4 * l.depth + 2

abbrev pub decreases-note_inline : goal.decreases-note_inline
decreases-note_inline l = 4 * l.depth + 3

abbrev pub invariant-inline-loop-step : goal.invariant-inline-loop-step
invariant-inline-loop-step l = (emit_all (desk_of (contents l.book.tape).source l.desk l.out) (inline_all (node_in_of (inside_of (contents l.book.tape) l.depth) (contents l.book.tape)) (contents l.book.tape) (behind_of (contents l.book.tape) l.parent l.outer l.known) l.trim (nodes_in (contents l.book.tape) l.span l.step)) ≡ emit_all (desk_of (contents l.book.tape).source l.initial.desk l.initial.out) (inline_all (node_in_of (inside_of (contents l.book.tape) l.depth) (contents l.book.tape)) (contents l.book.tape) (behind_of (contents l.book.tape) l.parent l.outer l.initial.known) l.initial.trim (nodes_in (contents l.book.tape) l.span l.initial.step))) × (KeptAt (contents l.book.tape) l.step l.kept × (length l.out ≡ length l.initial.out))

abbrev pub decreases-inline-loop-step : goal.decreases-inline-loop-step
decreases-inline-loop-step l = left (contents l.book.tape) l.step

abbrev pub invariant-note_inline-loop-step : goal.invariant-note_inline-loop-step
invariant-note_inline-loop-step l = (emit_all (desk_of (contents l.book.tape).source l.desk l.out) (note_all (node_in_of (inside_of (contents l.book.tape) l.depth) (contents l.book.tape)) (contents l.book.tape) (l.parent.at + 1) (behind_of (contents l.book.tape) l.parent l.outer l.known) l.trim (walk_from (contents l.book.tape) l.step)) ≡ emit_all (desk_of (contents l.book.tape).source l.initial.desk l.initial.out) (note_all (node_in_of (inside_of (contents l.book.tape) l.depth) (contents l.book.tape)) (contents l.book.tape) (l.parent.at + 1) (behind_of (contents l.book.tape) l.parent l.outer l.initial.known) l.initial.trim (walk_from (contents l.book.tape) l.initial.step))) × (KeptAt (contents l.book.tape) l.step l.kept × (length l.out ≡ length l.initial.out))

abbrev pub decreases-note_inline-loop-step : goal.decreases-note_inline-loop-step
decreases-note_inline-loop-step l = left (contents l.book.tape) l.step
