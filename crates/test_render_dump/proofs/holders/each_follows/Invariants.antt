use Rattle.tape.specs.File.{contents}
use Rattle.tape.specs.Tree.{left}
use Rattle.test_render_dump.proofs.holders.each_follows.Given as goal

abbrev pub decreases-loop-next : goal.decreases-loop-next
decreases-loop-next g l = left (contents l.tape) l.next
