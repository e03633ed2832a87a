use native.Mathlib.Omega.{arith}
use Rattle.tape.proofs.Laws.{base_known, base_unknown}
use Rattle.tape.proofs.Cursor.base_len.Goals as goal

pub returns-in-Some : goal.returns-in-Some
returns-in-Some c = record { value = search base_known; upper_bound = omega arith }

pub returns-in-None : goal.returns-in-None
returns-in-None c = record { value = search base_unknown; upper_bound = omega arith }
