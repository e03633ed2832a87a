use mathlib.Core.Path.{refl}
use native.Mathlib.Omega.{arith}
use Rattle.put_attrs.proofs.Written.{ahead_all, unquoted-last, piece-fits, piece_less, unquoted-turn}
use Rattle.put_attrs.proofs.put_unquoted.Goals as goal

pub loop-desk-init : goal.loop-desk-init
loop-desk-init c = (ahead_all _, refl)

pub returns-then-rest-n : goal.returns-then-rest-n
returns-then-rest-n c = search unquoted-last

pub overflow_add-past : goal.overflow_add-past
overflow_add-past c = omega (arith, piece-fits c.args.s.now c.loop-desk.past c.from-rest.ensures.bytes c.piece_len-n.ensures c.if-rest-n.false)

pub overflow_add-past-in-loop-desk : goal.overflow_add-past-in-loop-desk
overflow_add-past-in-loop-desk c = omega (arith, piece-fits c.args.s.now c.loop-desk.past c.from-rest.ensures.bytes c.piece_len-n.ensures c.if-rest-n.false)

pub loop-desk-smaller : goal.loop-desk-smaller
loop-desk-smaller c = search piece_less

pub loop-desk-preserved : goal.loop-desk-preserved
loop-desk-preserved c = (search unquoted-turn, omega arith)
