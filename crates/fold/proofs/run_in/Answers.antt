use mathlib.Core.Path.{◌≡◌, ◌∙◌}
use mathlib.Core.Bool.{◌&&◌, ◌||◌}
use lib.Dec.{ltb}
use Rattle.fold.proofs.run_in.Goals.{then-gap, else-gap, then-begun, else-begun}
use Rattle.fold.proofs.Numbers.{run_start, run_past, run-left, run-white, run_word, run-some}
use native.Mathlib.Omega.{arith}
use Rattle.fold.proofs.run_in.Goals as goal

pub returns-then-len-eq0 : goal.returns-then-len-eq0
returns-then-len-eq0 c =
    let spaced : c.if-gap.spaced ≡ c.args.gap || ltb 0 c.white_len-white.result = elim c.if-gap.branch [ then-gap w ↦ rw w.if-gap.true (w.spaced-is ∙ w.if-gap.true) | else-gap w ↦ rw w.if-gap.false w.spaced-is ] in
    record { more_value = search (run-white, spaced); word_some = omega arith }

pub overflow_add-start : goal.overflow_add-start
overflow_add-start c = let a = c.args in omega (arith, run_start a.source.now a.rest c.part-s.ensures.bytes c.white_len-white.ensures c.from.ensures.bytes c.word_len-len.ensures)

pub overflow_add-result : goal.overflow_add-result
overflow_add-result c = let a = c.args in omega (arith, run_past a.source.now a.rest c.part-s.ensures.bytes c.white_len-white.ensures c.from.ensures.bytes c.word_len-len.ensures)

pub overflow_sub-result : goal.overflow_sub-result
overflow_sub-result c = let a = c.args in omega (arith, run-left a.source.now a.rest c.part-s.ensures.bytes c.white_len-white.ensures c.from.ensures.bytes c.word_len-len.ensures)

pub overflow_sub-result-2 : goal.overflow_sub-result-2
overflow_sub-result-2 c = let a = c.args in omega (arith, run-left a.source.now a.rest c.part-s.ensures.bytes c.white_len-white.ensures c.from.ensures.bytes c.word_len-len.ensures)

pub returns : goal.returns
returns c =
    let spaced : c.if-gap.spaced ≡ c.args.gap || ltb 0 c.white_len-white.result = elim c.if-gap.branch [ then-gap w ↦ rw w.if-gap.true (w.spaced-is ∙ w.if-gap.true) | else-gap w ↦ rw w.if-gap.false w.spaced-is ] in
    let apart : c.if-begun.result ≡ c.args.begun && c.if-gap.spaced = elim c.if-begun.branch [ then-begun w ↦ rw w.if-begun.true w.result-is | else-begun w ↦ rw w.if-begun.false (w.result-is ∙ w.if-begun.false) ] in
    record { more_value = search (run_word, spaced, apart); word_some = search run-some }
