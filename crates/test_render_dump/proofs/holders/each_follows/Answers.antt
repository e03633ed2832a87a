use Rattle.tape.proofs.Walk.{left-turn}
use Rattle.test_render_dump.proofs.holders.each_follows.Goals as goal

pub loop-next-smaller : goal.loop-next-smaller
loop-next-smaller g c = search left-turn
