use Prim.Native.Nat.{◌+◌, ◌≤◌}
use native.Mathlib.Omega.{arith}
use lib.ListN.{length}
use Rattle.tape.proofs.NameRule.{byte_turn, name-fits, name_less, name-turn, name_stop, name_end}
use Rattle.tape.proofs.name.name_len.Goals as goal

pub loop-i-init : goal.loop-i-init
loop-i-init c = omega arith

pub loop-i-preserved-then-is_name_byte : goal.loop-i-preserved-then-is_name_byte
loop-i-preserved-then-is_name_byte c = (omega arith, search byte_turn)

pub returns-then-ends_name : goal.returns-then-ends_name
returns-then-ends_name c = search name_stop

pub overflow_add-i-else-is_name_byte : goal.overflow_add-i-else-is_name_byte
overflow_add-i-else-is_name_byte c =
    let fits : c.loop-i.i + c.first_char-c.result.width ≤ length c.args.s.now = search name-fits in omega arith

pub loop-i-smaller : goal.loop-i-smaller
loop-i-smaller c = search name_less

pub loop-i-preserved : goal.loop-i-preserved
loop-i-preserved c = (search name-fits, search name-turn)

pub returns : goal.returns
returns c = search name_end
