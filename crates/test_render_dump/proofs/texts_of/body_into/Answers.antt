use Rattle.test_render_dump.proofs.Loops.{first_in, next_in, word_less}
use Rattle.test_render_dump.proofs.texts_of.body_into.Goals as goal

pub loop-part-init : goal.loop-part-init
loop-part-init c = search first_in

pub loop-part-smaller : goal.loop-part-smaller
loop-part-smaller c = search word_less

pub loop-part-preserved : goal.loop-part-preserved
loop-part-preserved c = search next_in
