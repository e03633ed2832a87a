use Rattle.walk.proofs.Whole.{ahead_start, ahead_turn, number-zero, number_one}
use Rattle.walk.proofs.first_number.Goals as goal

pub loop-i-init : goal.loop-i-init
loop-i-init c = search ahead_start

pub returns-then-kind-eq-CHAPTER : goal.returns-then-kind-eq-CHAPTER
returns-then-kind-eq-CHAPTER c = search number-zero

pub loop-i-preserved : goal.loop-i-preserved
loop-i-preserved c = search ahead_turn

pub returns : goal.returns
returns c = search number_one
