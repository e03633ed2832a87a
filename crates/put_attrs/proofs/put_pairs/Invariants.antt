use mathlib.Core.Path.{◌≡◌}
use lib.ListN.{length}
use Rattle.tape.specs.File.{contents}
use Rattle.attrs.specs.Walk.{remaining}
use Rattle.put_attrs.proofs.Written.{Ahead}
use Rattle.put_attrs.proofs.Listed.{strokes_of_pairs}
use Rattle.put_attrs.proofs.put_pairs.Given as goal

abbrev pub invariant-loop-a : goal.invariant-loop-a
invariant-loop-a l = Ahead l.initial.desk l.initial.out (strokes_of_pairs (remaining (contents l.tape) l.marker l.initial.left)) l.desk l.out (strokes_of_pairs (remaining (contents l.tape) l.marker l.left)) × (length l.out ≡ length l.initial.out)

abbrev pub decreases-loop-a : goal.decreases-loop-a
decreases-loop-a l = length (remaining (contents l.tape) l.marker l.left)
