use native.Mathlib.Omega.{arith}
use Rattle.tags.proofs.Laws.{named_fits}
use Rattle.tags.proofs.open_head.Goals as goal

pub overflow_add-result : goal.overflow_add-result
overflow_add-result c = omega (arith, named_fits 1 c.args.s.now c.from.ensures.bytes c.element.ensures c.in-Name.is)
