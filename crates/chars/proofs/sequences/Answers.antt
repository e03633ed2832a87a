use native.Mathlib.Omega.{arith}
use borrow.Author.Rules.{rules}
use Rattle.chars.proofs.Passes.{pass_start, pass_fits, pass_sequence, pass_stuck}
use Rattle.chars.proofs.sequences.Goals as goal

pub loop-i-init : goal.loop-i-init
loop-i-init c = search pass_start

pub returns-then-n-eq0 : goal.returns-then-n-eq0
returns-then-n-eq0 c = record { pass_to = search rules; s_value = λ z l m. search pass_stuck }

pub overflow_add-i : goal.overflow_add-i
overflow_add-i c = omega (arith, pass_fits c.loop-i.invariant c.len_at-n.ensures)

pub loop-i-smaller : goal.loop-i-smaller
loop-i-smaller c = omega arith

pub loop-i-preserved : goal.loop-i-preserved
loop-i-preserved c = search pass_sequence

pub returns : goal.returns
returns c = record { pass_to = search rules; s_value = λ z l m. absurd (omega arith) }
