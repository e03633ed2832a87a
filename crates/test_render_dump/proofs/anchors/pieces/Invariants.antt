use Rattle.std.proofs.Common.{length}
use Rattle.tape.specs.File.{contents}
use Rattle.fold.specs.Number.{to_come}
use Rattle.test_render_dump.proofs.anchors.pieces.Given as goal

abbrev pub decreases-loop-piece : goal.decreases-loop-piece
decreases-loop-piece g l = length (to_come (contents l.tape) l.left)
