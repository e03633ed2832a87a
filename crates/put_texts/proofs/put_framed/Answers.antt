use Rattle.put_texts.proofs.Written.{framed_shows, framed_hidden}
use Rattle.put_texts.proofs.put_framed.Goals as goal

pub returns-then-n : goal.returns-then-n
returns-then-n c = search framed_shows

pub returns-else-n : goal.returns-else-n
returns-else-n c = search framed_hidden
