use Rattle.std.proofs.Common.{arith}
use borrow.Author.Count.{below_none, below_more}
use Rattle.tape.proofs.Laws.{node-count}
use Rattle.nest.proofs.Tape.{yes_is, no_is, clash}
use Rattle.admit.proofs.nodes.sound_nodes.Goals as goal

pub loop-k-init : goal.loop-k-init
loop-k-init c = below_none _

pub returns-then-not-sound_node : goal.returns-then-not-sound_node
returns-then-not-sound_node c =
    no_is (λ g. clash (c.sound_node.ensures.1 (g c.loop-k.k (omega (arith, node-count c.args.t.now.sections c.args.t.now.file.now)))) c.if-not-sound_node.true)

pub loop-k-preserved : goal.loop-k-preserved
loop-k-preserved c = below_more _ _ c.loop-k.invariant (c.sound_node.ensures.0 c.if-not-sound_node.false)

pub returns : goal.returns
returns c = yes_is (λ i l. c.loop-k.invariant i (omega (arith, node-count c.args.t.now.sections c.args.t.now.file.now)))
