use Rattle.std.proofs.Common.{rules, tests}
use Rattle.parts.specs.Pair.{is_both}
use Rattle.parts.proofs.has_pair.Goals as goal

pub returns : goal.returns
unfolding is_both
returns c = c.any_pair.ensures (is_both c.args.x) (λ y z r k. search (rules, tests))
