use Rattle.layout.proofs.Turn.{rotated}
use Rattle.layout.proofs.rotate.Goals as goal

pub returns : goal.returns
returns c =
    rotated c.args.buf.now c.args.lo c.args.mid c.args.hi c.requires.0 c.requires.1 c.requires.2 c.rotate_left.ensures.after
