use borrow.Author.Rules.{rules}
use native.Mathlib.Omega.{arith}
use Rattle.judge.proofs.NumberRule.{limits_of}
use Rattle.judge.proofs.size.Goals as goal

pub overflow_add-result : goal.overflow_add-result
overflow_add-result c = omega (arith, limits_of _ c.requires)

pub overflow_mul-result : goal.overflow_mul-result
overflow_mul-result c = omega (arith, limits_of _ c.requires)

pub overflow_mul-result-2 : goal.overflow_mul-result-2
overflow_mul-result-2 c = omega (arith, limits_of _ c.requires)

pub overflow_add-result-2 : goal.overflow_add-result-2
overflow_add-result-2 c = omega (arith, limits_of _ c.requires)

pub overflow_add-result-3 : goal.overflow_add-result-3
overflow_add-result-3 c = omega (arith, limits_of _ c.requires)

pub overflow_add-result-4 : goal.overflow_add-result-4
overflow_add-result-4 c = omega (arith, limits_of _ c.requires)

pub returns : goal.returns
returns c = record { value = search rules; upper_bound = omega (arith, limits_of _ c.requires) }
