use Rattle.layout.proofs.Turn.{turned_part}
use Rattle.layout.proofs.reverse.Goals as goal

pub returns : goal.returns
returns c = turned_part c.args.buf.now c.args.from c.args.to c.requires.ordered c.reverse.ensures.after
