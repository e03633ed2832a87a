use Prim.Native.Nat.{◌≤◌, ◌-◌}
use mathlib.Core.Path.{◌≡◌}
use lib.ListN.{length}
use Rattle.words.specs.Words.{trim_end}
use Rattle.words.specs.declared.Set.TheVariants.{Unicode}
use Rattle.words.proofs.Turns.{solid_end_of}
use Rattle.words.proofs.solid_chars.Given as goal

abbrev pub invariant-loop-at : goal.invariant-loop-at
invariant-loop-at l = (l.at ≤ length l.s) × (solid_end_of Unicode l.s l.at l.end ≡ length (trim_end Unicode l.s))

abbrev pub decreases-loop-at : goal.decreases-loop-at
decreases-loop-at l = length l.s - l.at
