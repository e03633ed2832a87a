use native.Mathlib.Omega.{arith}
use Rattle.words.proofs.Answers.{last_starts, next-ends, last_turn, last_less, last_found}
use Rattle.words.proofs.last_word.Goals as goal

pub loop-next-init : goal.loop-next-init
loop-next-init c = search last_starts

pub overflow_add-next : goal.overflow_add-next
overflow_add-next c =
    let inv = c.loop-next.invariant in omega (arith, next-ends _ _ inv.at inv.here inv.inside)

pub loop-next-smaller : goal.loop-next-smaller
loop-next-smaller c = last_less _ _ c.loop-next.invariant (omega arith) c.next_word-next.ensures

pub loop-next-preserved : goal.loop-next-preserved
loop-next-preserved c = last_turn _ _ c.loop-next.invariant (omega arith) c.next_word-next.ensures

pub returns : goal.returns
returns c = search last_found
