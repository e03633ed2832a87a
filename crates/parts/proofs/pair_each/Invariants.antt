use Prim.Native.Nat.{◌+◌, ◌-◌, ◌≤◌}
use mathlib.Core.Path.{◌≡◌}
use mathlib.Core.List.{[], ◌∷◌}
use lib.ListN.{length, drop}
use Rattle.parts.specs.Bytes.{find}
use Rattle.parts.proofs.pair_each.Given as goal

abbrev pub invariant-loop-i : goal.invariant-loop-i
invariant-loop-i l = (l.i - 1 ≤ length l.s) × (l.i - 1 + find (l.x ∷ l.x ∷ []) (drop (l.i - 1) l.s) ≡ find (l.x ∷ l.x ∷ []) l.s)
