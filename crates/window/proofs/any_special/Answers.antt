use Rattle.std.proofs.Common.{rules, tests, sym, ◌∙◌}
use Rattle.chars.specs.Escape.{special}
use Rattle.window.proofs.Escape.{any-special}
use Rattle.window.proofs.any_special.Goals as goal

pub returns : goal.returns
returns c = c.any_byte.ensures (special c.args.attr) (λ x r k. search (rules, tests)) ∙ sym (any-special c.args.attr c.args.s.now)
