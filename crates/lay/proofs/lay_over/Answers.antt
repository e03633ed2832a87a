use mathlib.Core.Path.{sym}
use Rattle.std.proofs.lemmas.List.{take_min}
use Rattle.parts.proofs.Over.{over-past}
use Rattle.parts.proofs.Copied.{copied}
use Rattle.lay.proofs.lay_over.Goals as goal

pub returns-then-start-out : goal.returns-then-start-out
returns-then-start-out c = copied c.args.out.now c.args.start c.args.run.now _ c.if-start-out.true (rw c.min-n.ensures (take_min _ c.args.run.now)) c.copy.ensures

pub returns-else-start-out : goal.returns-else-start-out
returns-else-start-out c = sym (over-past _ _ _ c.if-start-out.false)
