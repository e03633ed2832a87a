use native.Mathlib.Omega.{arith}
use mathlib.Core.Path.{sym, ap, ◌∙◌}
use borrow.Author.Tests.{ltb-false}
use Rattle.std.proofs.lemmas.Option.{get_or_from_slice_get}
use Rattle.chars.specs.Space.{is_ascii_white}
use Rattle.texts.proofs.Texts.{starts_none, starts_some}
use Rattle.texts.proofs.starts_white.Goals as goal

pub returns-in-Some : goal.returns-in-Some
returns-in-Some c =
    let s = c.args.s.now in
    starts_some s (c.is_ascii_white.ensures ∙ ap is_ascii_white (sym (get_or_from_slice_get s 0 _ 0 (sym c.in-Some.ensures.value))))

pub returns-in-None : goal.returns-in-None
returns-in-None c = starts_none c.args.s.now (omega (arith, ltb-false _ _ (sym c.in-None.ensures.item.0)))
