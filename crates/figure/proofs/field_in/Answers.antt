use mathlib.Core.Path.{◌≡◌, ap}
use Prim.Native.Nat.{◌+◌, ◌-◌}
use native.Mathlib.Omega.{arith}
use lib.ListN.{length, length-drop}
use Rattle.figure.proofs.Figures.{field_here, field_short, field_on}
use Rattle.figure.proofs.field_in.Goals as goal

pub loop-init : goal.loop-init
loop-init c = (omega arith, let left : c.args.n - 0 ≡ c.args.n = omega arith in rw left)

pub returns-then-rest-bar : goal.returns-then-rest-bar
returns-then-rest-bar c = field_short c.loop.rest.now _ c.find_byte-bar.ensures c.loop.invariant.1 (λ h. omega arith) c.if-rest-bar.true c.part.ensures.bytes

pub overflow_add-bar : goal.overflow_add-bar
overflow_add-bar c = let i = c.loop.invariant in omega (arith, i.0)

pub loop-preserved : goal.loop-preserved
loop-preserved c =
    let i = c.loop.invariant in
    let r = c.loop.rest.now in
    let left : c.args.n - (c.loop.counter + 1) ≡ c.args.n - c.loop.counter - 1 = omega arith in (
      omega (arith, i.0, ap length c.from-rest.ensures.bytes, length-drop (c.find_byte-bar.result + 1) r),
      rw left (field_on r _ c.find_byte-bar.ensures i.1 (λ h. omega arith) c.if-rest-bar.false c.from-rest.ensures.bytes),
    )

pub returns : goal.returns
returns c = field_here c.loop.rest.now _ c.find_byte.ensures c.loop.invariant.1 (omega arith) c.part-2.ensures.bytes
