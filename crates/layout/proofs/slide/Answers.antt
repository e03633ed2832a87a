use Rattle.layout.proofs.Moved.{slid}
use Rattle.layout.proofs.slide.Goals as goal

pub returns : goal.returns
returns c = slid c.args.buf.now c.args.from c.args.to c.args.len c.requires.1 c.copy_within.ensures.after
