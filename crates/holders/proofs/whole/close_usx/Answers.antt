use Rattle.holders.proofs.Frame.{usx_closed}
use Rattle.holders.proofs.whole.close_usx.Goals as goal

pub returns : goal.returns
returns c = λ source. usx_closed _ (c.line.ensures source) (c.close_tag.ensures.on source)
