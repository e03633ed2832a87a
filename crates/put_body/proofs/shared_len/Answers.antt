use native.Mathlib.Omega.{arith}
use Rattle.put_body.proofs.Tests.{shared-fits}
use Rattle.put_body.proofs.shared_len.Goals as goal

pub overflow_add-result : goal.overflow_add-result
overflow_add-result c = omega (arith, shared-fits _ c.shared_blocks-i.ensures c.shared_each.ensures)
