use native.Mathlib.Omega.{arith}
use Rattle.chars.proofs.Passes.{pass_start, pass_on, pass_end, pass_none}
use Rattle.chars.proofs.is_utf8.Goals as goal

pub loop-i-init : goal.loop-i-init
loop-i-init c = (omega arith, search pass_start)

pub returns-then-m-eq0 : goal.returns-then-m-eq0
returns-then-m-eq0 c =
    pass_none (pass_on c.loop-i.invariant.1 c.ascii_len-n.ensures)
    (c.sequences-m.ensures.s_value c.if-m-eq0.true (c.next_span-span.ensures c.loop-i.invariant.0))

pub loop-i-preserved : goal.loop-i-preserved
loop-i-preserved c = (
  c.next_span-span.ensures c.loop-i.invariant.0,
  pass_on (pass_on c.loop-i.invariant.1 c.ascii_len-n.ensures) c.sequences-m.ensures.pass_to,
)

pub returns : goal.returns
returns c = search pass_end
