use Rattle.attrs.specs.Attr.{quoted_len}
use Rattle.attrs.proofs.Values.{quoted_turn, quoted_stop, quoted_end}
use native.Mathlib.Omega.{arith}
use Rattle.attrs.proofs.quoted_len.Goals as goal

pub loop-i-init : goal.loop-i-init
unfolding quoted_len
loop-i-init c = omega arith

pub returns-then-closes : goal.returns-then-closes
returns-then-closes c = search quoted_stop

pub loop-i-preserved : goal.loop-i-preserved
loop-i-preserved c = search quoted_turn

pub returns : goal.returns
returns c = omega (arith, quoted_end c.args.s.now c.loop-i.i c.loop-i.last _ (omega arith) c.loop-i.invariant)
