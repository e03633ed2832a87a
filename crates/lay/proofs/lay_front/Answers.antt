use mathlib.Core.Path.{sym}
use Rattle.parts.proofs.Over.{over-past}
use Rattle.parts.proofs.Block.{over-same}
use Rattle.lay.proofs.lay_front.Goals as goal

pub returns-then-out-start : goal.returns-then-out-start
returns-then-out-start c = sym (over-past _ _ _ c.if-out-start.true)

pub returns-else-n-le16 : goal.returns-else-n-le16
returns-else-n-le16 c = search over-same
