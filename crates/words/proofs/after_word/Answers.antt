use native.Mathlib.Omega.{arith}
use Rattle.words.proofs.Answers.{next-ends, after-found}
use Rattle.words.proofs.after_word.Goals as goal

pub overflow_add-word : goal.overflow_add-word
overflow_add-word c = omega (arith, next-ends _ _ 0 c.next_word-word.ensures (omega arith))

pub returns : goal.returns
returns c = search after-found
