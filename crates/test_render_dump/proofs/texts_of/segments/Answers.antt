use Rattle.test_render_dump.proofs.Loops.{break_in}
use Rattle.test_render_dump.proofs.texts_of.segments.Goals as goal

pub loop-at-preserved : goal.loop-at-preserved
loop-at-preserved g c = search break_in
