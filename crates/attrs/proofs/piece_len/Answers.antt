use Rattle.parts.specs.Bytes.{b, begins}
use Rattle.parts.proofs.Laws.{first-turn, first_stop, first_end}
use Rattle.attrs.proofs.Scan.{rest_is}
use Rattle.attrs.specs.Attr.{piece_len}
use native.Mathlib.Omega.{arith}
use Rattle.attrs.proofs.piece_len.Goals as goal

pub loop-i-init : goal.loop-i-init
unfolding piece_len
loop-i-init c = omega arith

pub returns-then-begins_with : goal.returns-then-begins_with
returns-then-begins_with c = first_stop (begins (b "\\\"")) c.args.s.now c.loop-i.i _ (omega arith) (rest_is c.args.s.now c.loop-i.i) c.begins_with.ensures c.if-begins_with.true c.loop-i.invariant

pub loop-i-preserved : goal.loop-i-preserved
loop-i-preserved c = first-turn (begins (b "\\\"")) c.args.s.now c.loop-i.i _ (omega arith) (rest_is c.args.s.now c.loop-i.i) c.begins_with.ensures c.if-begins_with.false c.loop-i.invariant

pub returns : goal.returns
returns c = omega (arith, first_end (begins (b "\\\"")) c.args.s.now c.loop-i.i _ (omega arith) c.loop-i.invariant)
