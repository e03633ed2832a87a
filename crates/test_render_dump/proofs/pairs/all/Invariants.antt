use Rattle.std.proofs.Common.{length}
use Rattle.tape.specs.File.{contents}
use Rattle.attrs.specs.Walk.{remaining}
use Rattle.test_render_dump.proofs.pairs.all.Given as goal

abbrev pub decreases-loop-attribute : goal.decreases-loop-attribute
decreases-loop-attribute g l = length (remaining (contents l.tape) l.marker l.left)
