use Rattle.attrs.proofs.Walks.{body_starts, body-found}
use native.Mathlib.Omega.{arith}
use Rattle.attrs.proofs.body_in.Goals as goal

pub overflow_add-start : goal.overflow_add-start
overflow_add-start c = omega (arith, body_starts c.args.s.now c.bar_len-bar.ensures c.from.ensures.bytes c.white_len.ensures)

pub returns : goal.returns
returns c = search body-found
