use native.Mathlib.Omega.{arith}
use Rattle.render.proofs.Labels.{word_found, word_within}
use Rattle.render.proofs.label.word_part.Goals as goal

pub overflow_add-result : goal.overflow_add-result
overflow_add-result c = omega (arith, word_within _ c.long-start.result c.long.result _ c.part-text.ensures.bytes c.nth_word-word.ensures)

pub returns : goal.returns
returns c = search word_found
