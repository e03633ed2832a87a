use native.Mathlib.Omega.{arith}
use borrow.Author.Tests.{ltb-false}
use mathlib.Core.Path.{sym, ap, ◌∙◌}
use Rattle.std.proofs.lemmas.Option.{get_or_from_slice_get, slice_get_within}
use Rattle.chars.specs.Space.{is_ascii_white}
use Rattle.words.proofs.Turns.{front_none, front_one, front_wide, front_by}
use Rattle.words.proofs.front.Goals as goal

pub returns-in-Some : goal.returns-in-Some
returns-in-Some c =
    let s = c.args.s.now in
    let some = slice_get_within s 0 _ (sym c.in-Some.ensures.value) in
    front_by s c.in-Ascii.is (front_one s (λ e. omega arith) (c.is_ascii_white.ensures ∙ ap is_ascii_white (sym (get_or_from_slice_get s 0 _ 0 (sym c.in-Some.ensures.value)))))

pub returns-in-None : goal.returns-in-None
returns-in-None c = front_by c.args.s.now c.in-Ascii.is (front_none c.args.s.now (omega (arith, ltb-false _ _ (sym c.in-None.ensures.item.0))))

pub returns-in-Unicode : goal.returns-in-Unicode
returns-in-Unicode c = front_by c.args.s.now c.in-Unicode.is (front_wide c.args.s.now c.first_char-c.ensures c.is_white.ensures)
