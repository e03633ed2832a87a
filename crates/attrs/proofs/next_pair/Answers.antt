use native.Mathlib.Omega.{arith}
use mathlib.Core.Path.{refl}
use Rattle.attrs.proofs.Turns.{turn-none, past_in, past_fits, key_fits, value_fits, turn_less, turn_on, turn-found}
use Rattle.attrs.proofs.next_pair.Goals as goal

pub loop-first-init : goal.loop-first-init
loop-first-init c = (omega arith, refl)

pub returns : goal.returns
returns c = search turn-none

pub overflow_add-start : goal.overflow_add-start
overflow_add-start c = let l = c.loop-first in omega (arith, past_fits c.args.source.now l.start l.len c.part.ensures.bytes c.first_pair.ensures c.in-Some.is)

pub overflow_sub-len : goal.overflow_sub-len
overflow_sub-len c = let l = c.loop-first in omega (arith, past_in c.args.source.now l.start l.len c.part.ensures.bytes c.first_pair.ensures c.in-Some.is)

pub overflow_add-result : goal.overflow_add-result
overflow_add-result c = let l = c.loop-first in omega (arith, key_fits c.args.source.now l.start l.len c.part.ensures.bytes c.first_pair.ensures c.in-Some.is)

pub overflow_add-result-then-first-gt0 : goal.overflow_add-result-then-first-gt0
overflow_add-result-then-first-gt0 c = let l = c.loop-first in omega (arith, value_fits c.args.source.now l.start l.len c.part.ensures.bytes c.first_pair.ensures c.in-Some.is)

pub returns-then-first-gt0 : goal.returns-then-first-gt0
returns-then-first-gt0 c = search turn-found

pub loop-first-smaller : goal.loop-first-smaller
loop-first-smaller c = search turn_less

pub loop-first-preserved : goal.loop-first-preserved
loop-first-preserved c = (let l = c.loop-first in omega (arith, past_fits c.args.source.now l.start l.len c.part.ensures.bytes c.first_pair.ensures c.in-Some.is), search turn_on)
