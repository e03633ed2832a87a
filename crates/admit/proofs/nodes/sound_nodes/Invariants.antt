use Prim.Native.Nat.{ℕ, ◌<◌}
use Rattle.tape.specs.File.{contents}
use Rattle.admit.specs.Pieces.{SoundNode}
use Rattle.admit.proofs.nodes.sound_nodes.Given as goal

abbrev pub invariant-loop-k : goal.invariant-loop-k
invariant-loop-k l = (i : ℕ) → i < l.k → SoundNode (contents l.t) i
