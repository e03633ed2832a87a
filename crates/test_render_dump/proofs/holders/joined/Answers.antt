use Rattle.test_render_dump.proofs.Loops.{first_in, next_in, word_less}
use Rattle.test_render_dump.proofs.holders.joined.Goals as goal

pub loop-part-init : goal.loop-part-init
loop-part-init g c = search first_in

pub loop-part-smaller : goal.loop-part-smaller
loop-part-smaller g c = search word_less

pub loop-part-preserved : goal.loop-part-preserved
loop-part-preserved g c = search next_in
