use Rattle.tape.proofs.Laws.{bytes_there, bytes_cut, bytes_out}
use Rattle.tape.proofs.TapeFile.bytes_at.Goals as goal

pub returns-then-end-self : goal.returns-then-end-self
returns-then-end-self c = search bytes_there

pub returns-then-at-self : goal.returns-then-at-self
returns-then-at-self c = search bytes_cut

pub returns : goal.returns
returns c = search bytes_out
