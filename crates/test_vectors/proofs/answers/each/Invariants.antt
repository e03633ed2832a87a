use Rattle.window.specs.Page.{page_of}
use Rattle.test_vectors.specs.Front.{Written}
use Rattle.test_vectors.proofs.answers.each.Given as goal

abbrev pub invariant-loop-i : goal.invariant-loop-i
invariant-loop-i g l = Written (page_of l.initial.w l.initial.out) (page_of l.w l.out)
