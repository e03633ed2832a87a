use Rattle.words.specs.declared.Set.TheVariants.{Unicode}
use Rattle.words.proofs.Answers.{start_fits}
use Rattle.attrs.proofs.Values.{quote_in, quote_ends, value_quoted, value_bare, bare_ends}
use native.Mathlib.Omega.{arith}
use Rattle.attrs.proofs.value_at.Goals as goal

pub overflow_add-at : goal.overflow_add-at
overflow_add-at c = let a = c.args in omega (arith, start_fits Unicode a.s.now a.from c.from.ensures.bytes c.white_len.ensures)

pub overflow_add-start : goal.overflow_add-start
overflow_add-start c = let a = c.args in omega (arith, quote_in a.s.now a.from c.from.ensures.bytes c.white_len.ensures c.from-v.ensures.bytes c.begins_with.ensures c.if-begins_with.true)

pub overflow_add-start-then-begins_with : goal.overflow_add-start-then-begins_with
overflow_add-start-then-begins_with c = let a = c.args in omega (arith, quote_ends a.s.now a.from c.from.ensures.bytes c.white_len.ensures c.from-v.ensures.bytes c.begins_with.ensures c.if-begins_with.true c.from-then-begins_with.ensures.bytes c.quoted_len-len.ensures)

pub overflow_add-start-then-begins_with-2 : goal.overflow_add-start-then-begins_with-2
overflow_add-start-then-begins_with-2 c = let a = c.args in omega (arith, quote_ends a.s.now a.from c.from.ensures.bytes c.white_len.ensures c.from-v.ensures.bytes c.begins_with.ensures c.if-begins_with.true c.from-then-begins_with.ensures.bytes c.quoted_len-len.ensures)

pub overflow_add-result : goal.overflow_add-result
overflow_add-result c = let a = c.args in omega (arith, start_fits Unicode a.s.now a.from c.from.ensures.bytes c.white_len.ensures, bare_ends a.s.now a.from c.from.ensures.bytes c.white_len.ensures c.from-v.ensures.bytes c.begins_with.ensures c.word_len-len.ensures)

pub returns-then-begins_with : goal.returns-then-begins_with
returns-then-begins_with c = search value_quoted

pub returns-else-begins_with : goal.returns-else-begins_with
returns-else-begins_with c = search value_bare
