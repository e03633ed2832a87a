use Rattle.attrs.proofs.Walks.{next_less}
use Rattle.test_render_dump.proofs.pairs.all.Goals as goal

pub loop-attribute-smaller : goal.loop-attribute-smaller
loop-attribute-smaller g c = search next_less
