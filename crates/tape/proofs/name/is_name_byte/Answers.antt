use native.Mathlib.Omega.{arith}
use Rattle.tape.proofs.NameRule.{name_byte, name_byte_not}
use Rattle.tape.proofs.name.is_name_byte.Goals as goal

pub returns-then-x-lt48 : goal.returns-then-x-lt48
returns-then-x-lt48 c = search name_byte_not

pub returns-then-x-gt122 : goal.returns-then-x-gt122
returns-then-x-gt122 c = search name_byte_not

pub returns : goal.returns
returns c = name_byte _ (omega arith) (omega arith)
