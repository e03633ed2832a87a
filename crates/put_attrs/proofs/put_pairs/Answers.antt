use mathlib.Core.Path.{refl}
use native.Mathlib.Omega.{arith}
use Rattle.attrs.proofs.Walks.{next_less}
use Rattle.put_attrs.proofs.Written.{ahead_all}
use Rattle.put_attrs.proofs.Listed.{collected_end, collected-turn}
use Rattle.put_attrs.proofs.put_pairs.Goals as goal

pub loop-a-init : goal.loop-a-init
loop-a-init c = (ahead_all _, refl)

pub returns : goal.returns
returns c = search collected_end

pub loop-a-smaller : goal.loop-a-smaller
loop-a-smaller c = search next_less

pub loop-a-preserved : goal.loop-a-preserved
loop-a-preserved c = (search collected-turn, omega arith)
