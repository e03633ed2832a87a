use Rattle.std.proofs.Common.{arith, refl}
use borrow.Author.Count.{below_none, below_more}
use Rattle.tape.proofs.Laws.{node-count}
use Rattle.nest.proofs.Tape.{clash}
use Rattle.admit.proofs.labels.all_clear.Goals as goal

pub loop-k-init : goal.loop-k-init
loop-k-init c = below_none _

pub returns-then-not-is_clear : goal.returns-then-not-is_clear
returns-then-not-is_clear c = λ e. absurd (clash e refl)

pub loop-k-preserved : goal.loop-k-preserved
loop-k-preserved c = below_more _ _ c.loop-k.invariant (c.is_clear.ensures c.if-not-is_clear.false)

pub returns : goal.returns
returns c = λ e i l. c.loop-k.invariant i (omega (arith, node-count c.args.t.now.sections c.args.t.now.file.now))
