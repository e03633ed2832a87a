use mathlib.Core.Bool.{false}
use native.Mathlib.Omega.{arith}
use Rattle.put_body.proofs.Turns.{word_ends, words_put}
use Rattle.put_body.proofs.put_words.Goals as goal

pub overflow_add-word : goal.overflow_add-word
overflow_add-word c = omega (arith, word_ends _ false _ _ c.next_word-word.ensures (omega arith))

pub returns : goal.returns
returns c = search words_put
