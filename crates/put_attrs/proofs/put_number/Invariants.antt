use mathlib.Core.Path.{◌≡◌}
use mathlib.Core.Bool.{false}
use mathlib.Core.List.{[], ◌∷◌}
use lib.ListN.{length}
use Rattle.tape.specs.File.{contents}
use Rattle.fold.specs.Number.{to_come}
use Rattle.desk.specs.Stroke.{piece}
use Rattle.put_attrs.proofs.Written.{Ahead}
use Rattle.put_attrs.proofs.put_number.Given as goal

abbrev pub invariant-loop-p : goal.invariant-loop-p
invariant-loop-p l = Ahead l.initial.desk l.initial.out (piece false (to_come (contents l.tape) l.initial.left) ∷ []) l.desk l.out (piece false (to_come (contents l.tape) l.left) ∷ []) × (length l.out ≡ length l.initial.out)

abbrev pub decreases-loop-p : goal.decreases-loop-p
decreases-loop-p l = length (to_come (contents l.tape) l.left)
