use mathlib.Core.Path.{sym, ap, ◌∙◌}
use borrow.Author.Tests.{ltb-true}
use Rattle.std.proofs.lemmas.Grind.{get_or_default_zero}
use Rattle.words.specs.First.{visible}
use Rattle.words.proofs.Turns.{front_seen, front_space}
use Rattle.words.proofs.front_at.Goals as goal

pub returns-in-Some : goal.returns-in-Some
returns-in-Some c =
    let s = c.args.s.now in
    let inside = ltb-true _ _ (sym c.in-Some.ensures.lookup.0) in
    let byte = c.in-Some.ensures.lookup.1 ∙ get_or_default_zero s c.args.at _ inside in
    front_seen c.args.set s c.args.at inside (c.is_visible.ensures ∙ ap visible byte) c.if-is_visible.true

pub returns-in-Some-eq32 : goal.returns-in-Some-eq32
returns-in-Some-eq32 c =
    let s = c.args.s.now in
    let inside = ltb-true _ _ (sym c.in-Some.ensures.lookup.0) in
    let byte = c.in-Some.ensures.lookup.1 ∙ get_or_default_zero s c.args.at _ inside in
    front_space c.args.set s c.args.at inside (sym byte ∙ c.in-Some-eq32.field-0-test)
