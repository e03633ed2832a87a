use native.Mathlib.Omega.{arith}
use Rattle.std.proofs.Common.{rules}
use Rattle.parts.specs.Pair.{NoPairTo}
use Rattle.parts.proofs.Pairs.{clear-along, blocks_start, blocks_turn, pair_on, pair_fits}
use Rattle.parts.proofs.find_pair.Goals as goal
use Rattle.parts.proofs.find_pair.Goals.{After-pair_each}

no_pair_to : (c : After-pair_each) → NoPairTo c.args.x c.args.s.now c.blocks_without-i.result
no_pair_to c =
    let x = c.args.x in
    let s = c.args.s.now in
    clear-along (NoPairTo x s) (blocks_start x s) (λ k l h p. blocks_turn x s k l (search (rules, h)) p) c.blocks_without-i.ensures

pub overflow_add-result : goal.overflow_add-result
overflow_add-result c = omega (arith, pair_fits (no_pair_to c) c.pair_each.ensures)

pub returns : goal.returns
returns c = pair_on (no_pair_to c) c.pair_each.ensures
