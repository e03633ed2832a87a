use mathlib.Core.Path.{refl}
use Rattle.words.proofs.Answers.{last_starts, next-ends, last_turn, last_less, last_found}
use native.Mathlib.Omega.{arith}
use Rattle.attrs.proofs.last_word.Goals as goal

pub loop-next-init : goal.loop-next-init
loop-next-init c = (search last_starts, next-ends _ _ 0 c.next_word-last.ensures (omega arith))

pub overflow_add-next : goal.overflow_add-next
overflow_add-next c = let inv = c.loop-next.invariant.0 in omega (arith, next-ends _ _ inv.at inv.here inv.inside)

pub loop-next-smaller : goal.loop-next-smaller
loop-next-smaller c = last_less _ _ c.loop-next.invariant.0 (omega arith) c.next_word-next.ensures

pub loop-next-preserved : goal.loop-next-preserved
loop-next-preserved c = let inv = c.loop-next.invariant.0 in (last_turn _ _ inv (omega arith) c.next_word-next.ensures, next-ends _ _ inv.at inv.here inv.inside)

pub returns : goal.returns
returns c = record { inside = omega arith; here = last_found _ _ c.loop-next.invariant.0 (omega arith) refl }
