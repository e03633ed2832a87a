use native.Mathlib.Omega.{arith}
use Rattle.put_body.proofs.Tight.{block_short, block-turn, block_end}
use Rattle.put_body.proofs.hard_block.Goals as goal

pub returns-then-s-lt17 : goal.returns-then-s-lt17
returns-then-s-lt17 c = search block_short

pub loop-i-preserved : goal.loop-i-preserved
loop-i-preserved c = (omega arith, omega arith, omega arith, search block-turn)

pub returns : goal.returns
returns c = search block_end
