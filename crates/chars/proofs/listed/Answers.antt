use Rattle.chars.proofs.White.{white_stop, white-turn, white_end}
use Rattle.chars.proofs.listed.Goals as goal

pub returns-then-code-w : goal.returns-then-code-w
returns-then-code-w c = search white_stop

pub loop-w-preserved : goal.loop-w-preserved
loop-w-preserved c = search white-turn

pub returns : goal.returns
returns c = search white_end
