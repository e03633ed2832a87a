use Rattle.std.proofs.Common.{arith}
use Rattle.std.proofs.Common.{◌≡◌, true}
use Rattle.judge.specs.Phase.{limited}
use Rattle.judge.proofs.NumberRule.{busy_limited, busy_fits, limits_of}
use Rattle.judge.proofs.node_number.Goals as goal

pub overflow_add-w : goal.overflow_add-w
overflow_add-w c =
    let h : limited c.args.w ≡ true = search busy_limited in
    omega (arith, limits_of c.args.w h)

pub good_node-requires : goal.good_node-requires
good_node-requires c = search busy_fits

pub size-requires : goal.size-requires
size-requires c = search busy_limited
