use mathlib.Core.Bool.{false}
use native.Mathlib.Omega.{arith}
use Rattle.put_body.proofs.Turns.{word_ends, words_less, words_none_left, words-turn, words_end}
use Rattle.put_body.proofs.put_spaced.Goals as goal

pub returns-then-word-eq0 : goal.returns-then-word-eq0
returns-then-word-eq0 c = search words_none_left

pub overflow_add-at : goal.overflow_add-at
overflow_add-at c = omega (arith, c.loop-at.invariant.2, word_ends _ false _ _ c.next_word-word.ensures (omega arith))

pub loop-at-smaller : goal.loop-at-smaller
loop-at-smaller c = search words_less

pub loop-at-preserved : goal.loop-at-preserved
loop-at-preserved c = (search words-turn, omega arith, c.loop-at.invariant.2)

pub returns : goal.returns
returns c = search words_end
