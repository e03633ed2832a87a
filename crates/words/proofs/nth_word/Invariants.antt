use Prim.Native.Nat.{◌-◌}
use Rattle.words.proofs.Answers.{Passing}
use Rattle.words.proofs.nth_word.Given as goal

abbrev pub invariant-loop-passed : goal.invariant-loop-passed
invariant-loop-passed l = Passing l.set l.s l.n l.word (l.n - l._passed)
