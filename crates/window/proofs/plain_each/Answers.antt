use Rattle.std.proofs.Common.{rules, tests}
use mathlib.Core.Path.{◌≡◌, sym, ◌∙◌}
use mathlib.Core.Bool.{true, false}
use Rattle.std.proofs.lemmas.Iterator.{YieldsList-from_slice, IsFirst-from_position, index_from_first}
use Rattle.chars.specs.Escape.{special}
use Rattle.window.specs.Plain.{plain_len}
use Rattle.window.proofs.Escape.{plain-none, plain-hit, plain-miss}
use Rattle.window.proofs.plain_each.Goals as goal

pub returns : goal.returns
returns c =
    let attr = c.args.attr in
    let first = IsFirst-from_position _ _ _ (λ y. special attr y ≡ true) (λ y. special attr y ≡ false) c.position.ensures.ran (YieldsList-from_slice c.args.s.now cc) (λ y q k. search (rules, tests)) (λ y q k. search (rules, tests)) in
    c.unwrap_or.ensures ∙ sym (index_from_first (plain_len attr) (λ y. special attr y ≡ true) (λ y. special attr y ≡ false) (plain-none attr) (plain-hit attr) (plain-miss attr) c.args.s.now _ first)
