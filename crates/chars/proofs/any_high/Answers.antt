use Rattle.std.proofs.Common.{rules, tests, sym, ◌∙◌}
use lib.Dec.{leb}
use Rattle.chars.proofs.Passes.{any-high}
use Rattle.chars.proofs.any_high.Goals as goal

pub returns : goal.returns
returns c = c.any_byte.ensures (leb 128) (λ x r k. search (rules, tests)) ∙ sym (any-high c.args.s.now)
