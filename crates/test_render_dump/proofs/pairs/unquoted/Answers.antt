use Rattle.test_render_dump.proofs.Loops.{piece_in}
use Rattle.test_render_dump.proofs.pairs.unquoted.Goals as goal

pub loop-at-preserved : goal.loop-at-preserved
loop-at-preserved g c = search piece_in
