use mathlib.Core.Bool.{true, false}
use Rattle.desk.proofs.Shown.{decimal-plain}
use Rattle.desk.proofs.Strokes.{plain_drawn}
use Rattle.desk.proofs.Desk.digits.Goals as goal

pub returns : goal.returns
returns c =
    let drawn = plain_drawn _ _ _ c.put_number.ensures (decimal-plain c.args.n) in
    record { drew = drawn true; drew_2 = drawn false }
