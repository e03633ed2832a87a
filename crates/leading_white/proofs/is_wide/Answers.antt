use Rattle.leading_white.proofs.Found.{wide_short, wide_solid, wide_white}
use Rattle.leading_white.proofs.is_wide.Goals as goal

pub returns-then-s-lt2 : goal.returns-then-s-lt2
returns-then-s-lt2 c = search wide_short

pub returns-then-is_ascii_white : goal.returns-then-is_ascii_white
returns-then-is_ascii_white c = search wide_white

pub returns : goal.returns
returns c = search wide_solid
