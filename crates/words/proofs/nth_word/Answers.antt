use native.Mathlib.Omega.{arith}
use Prim.Native.Nat.{◌+◌, ◌-◌}
use mathlib.Core.Path.{◌≡◌, subst}
use Rattle.words.proofs.Answers.{Passing, next-ends, nth_missing, nth_turn, nth_found}
use Rattle.words.proofs.nth_word.Goals as goal

pub returns-then-word-eq0 : goal.returns-then-word-eq0
returns-then-word-eq0 c = search nth_missing

pub overflow_add-word : goal.overflow_add-word
overflow_add-word c =
    let inv = c.loop-passed.invariant in omega (arith, next-ends _ _ inv.at inv.here inv.inside)

pub loop-passed-preserved : goal.loop-passed-preserved
loop-passed-preserved c =
    let n = c.args.n in
    let i = c.loop-passed._passed in
    let same : n - i - 1 ≡ n - (i + 1) = omega arith in
    subst (λ k. Passing c.args.set c.args.s.now n c.next_word-word-in-loop-passed.result k) same
    (nth_turn _ _ c.loop-passed.invariant (omega arith) c.next_word-word-in-loop-passed.ensures)

pub returns : goal.returns
returns c = nth_found _ _ c.loop-passed.invariant (omega arith)
