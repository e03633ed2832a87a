use mathlib.Core.Path.{◌≡◌}
use mathlib.Core.List.{[]}
use Prim.Native.Nat.{◌-◌, ◌≤◌}
use lib.ListN.{length, get_or}
use Rattle.figure.specs.Figure.{split}
use Rattle.figure.proofs.field_in.Given as goal

abbrev pub invariant-loop : goal.invariant-loop
invariant-loop l = (length l.rest ≤ length l.s) × (get_or (split 124 l.rest) (l.n - l.counter) [] ≡ get_or (split 124 l.s) l.n [])
