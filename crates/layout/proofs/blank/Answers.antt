use Rattle.layout.proofs.Moved.{blanked}
use Rattle.layout.proofs.blank.Goals as goal

pub returns : goal.returns
returns c = blanked c.args.buf.now c.args.from c.requires (c.fill.ensures.after (λ y h. h))
