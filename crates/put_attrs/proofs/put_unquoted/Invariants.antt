use Prim.Native.Nat.{◌-◌}
use mathlib.Core.Path.{◌≡◌}
use mathlib.Core.Bool.{false}
use mathlib.Core.List.{[], ◌∷◌}
use lib.ListN.{length, drop}
use Rattle.attrs.specs.Attr.{unquoted}
use Rattle.desk.specs.Stroke.{piece}
use Rattle.put_attrs.proofs.Written.{Ahead}
use Rattle.put_attrs.proofs.put_unquoted.Given as goal

abbrev pub invariant-loop-desk : goal.invariant-loop-desk
invariant-loop-desk l = Ahead l.initial.desk l.initial.out (piece false (unquoted l.s) ∷ []) l.desk l.out (piece false (unquoted (drop l.past l.s)) ∷ []) × (length l.out ≡ length l.initial.out)

abbrev pub decreases-loop-desk : goal.decreases-loop-desk
decreases-loop-desk l = length l.s - l.past
