use Rattle.fold.proofs.Numbers.{number_less}
use Rattle.test_render_dump.proofs.anchors.pieces.Goals as goal

pub loop-piece-smaller : goal.loop-piece-smaller
loop-piece-smaller g c = search number_less
