use Rattle.tape.proofs.Laws.{le32_read}
use Rattle.tape.proofs.number.le32.Goals as goal

pub returns : goal.returns
returns c = search le32_read
