use mathlib.Core.Path.{refl}
use Rattle.tape.proofs.Walk.{left-turn}
use Rattle.fold.proofs.Numbers.{number-piece, number_done, number_on, piece-some}
use native.Mathlib.Omega.{arith}
use Rattle.fold.proofs.Number.next.Goals as goal

pub loop-part-init : goal.loop-part-init
loop-part-init c = refl

pub returns-in-Word : goal.returns-in-Word
returns-in-Word c = record { self_value = search number-piece; piece_some = search piece-some }

pub returns-in_err-c-in-White : goal.returns-in_err-c-in-White
returns-in_err-c-in-White c = record { self_value = rw c.from_residual.ensures (search (number_done, c.in_err-c-in-White.was)); piece_some = rw c.from_residual.ensures (omega arith) }

pub loop-part-smaller : goal.loop-part-smaller
loop-part-smaller c = search (left-turn, c.in_ok-c-in-White.was)

pub loop-part-preserved : goal.loop-part-preserved
loop-part-preserved c = search (number_on, c.in_ok-c-in-White.was)
