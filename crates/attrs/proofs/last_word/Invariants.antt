use Prim.Native.Nat.{◌+◌, ◌≤◌, ◌-◌}
use lib.ListN.{length}
use Rattle.words.specs.declared.Set.TheVariants.{Unicode}
use Rattle.words.proofs.Answers.{Passed}
use Rattle.attrs.proofs.last_word.Given as goal

abbrev pub invariant-loop-next : goal.invariant-loop-next
invariant-loop-next l = Passed Unicode l.s l.last l.next × (l.last.start + l.last.len ≤ length l.s)

abbrev pub decreases-loop-next : goal.decreases-loop-next
decreases-loop-next l = length l.s - l.next.start
