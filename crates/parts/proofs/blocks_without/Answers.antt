use native.Mathlib.Omega.{arith}
use Rattle.std.proofs.lemmas.Fn.{says_at}
use Rattle.parts.specs.Pair.{start}
use Rattle.parts.proofs.Pairs.{clear-turn, clear-within}
use Rattle.parts.proofs.blocks_without.Goals as goal

pub loop-i-init : goal.loop-i-init
loop-i-init g c = start

pub loop-i-preserved : goal.loop-i-preserved
loop-i-preserved g c =
    clear-turn _ _ _ _ _ (omega arith) (clear-within c.requires.touching c.loop-i.invariant) (says_at g.F.Fn c.found.ensures c.if-found.false) c.loop-i.invariant
