use native.Mathlib.Omega.{arith}
use Rattle.window.proofs.Escape.{plain_fits}
use Rattle.window.proofs.plain_long.Goals as goal

pub overflow_add-result : goal.overflow_add-result
overflow_add-result c = omega (arith, plain_fits c.plain_blocks-i.ensures c.plain_each.ensures)
