use Rattle.std.proofs.Common.{◌≡◌, ◌∙◌}
use mathlib.Core.Bool.{cond}
use lib.Dec.{ltb}
use Rattle.source_index.proofs.Blocks.{found_some, found_none, fill_start, fill-turn}
use Rattle.source_index.proofs.fill.Goals as goal
use Rattle.source_index.proofs.fill.Goals.{then-p-end, else-p-end}

pub loop-b-init : goal.loop-b-init
loop-b-init c = search fill_start

pub loop-b-preserved : goal.loop-b-preserved
loop-b-preserved c =
    let found : c.if-p-end.next ≡ cond (ltb c.look-p.result c.edge-end.result) c.look-p.result c.loop-b.next =
    elim c.if-p-end.branch [
      | then-p-end w ↦ w.next-is ∙ found_some _ _ _ w.if-p-end.true
      | else-p-end w ↦ w.next-is ∙ found_none _ _ _ w.if-p-end.false
    ] in
    search fill-turn
