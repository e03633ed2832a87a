use Prim.Native.Nat.{ℕ, ◌<◌}
use Rattle.tape.specs.File.{contents}
use Rattle.admit.specs.Pieces.{GoodVerse}
use Rattle.admit.proofs.labels.all_clear.Given as goal

abbrev pub invariant-loop-k : goal.invariant-loop-k
invariant-loop-k l = (i : ℕ) → i < l.k → GoodVerse (contents l.t) i
