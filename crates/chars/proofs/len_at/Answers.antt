use Rattle.chars.proofs.Laws.{len_ascii, len_from}
use Rattle.chars.proofs.len_at.Goals as goal

pub returns-then-s-i-lt128 : goal.returns-then-s-i-lt128
returns-then-s-i-lt128 c = search len_ascii

pub returns : goal.returns
returns c = search len_from
