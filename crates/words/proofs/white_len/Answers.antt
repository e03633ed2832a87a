use Rattle.std.proofs.Common.{rules, tests}
use native.Mathlib.Omega.{arith}
use mathlib.Core.Path.{◌≡◌, sym, ◌∙◌}
use mathlib.Core.Bool.{true, false}
use Rattle.std.proofs.lemmas.Iterator.{YieldsList-from_slice, IsFirst-from_position, index_from_first}
use Rattle.chars.specs.Space.{is_ascii_white}
use Rattle.words.specs.Words.{white_len}
use Rattle.words.specs.declared.Set.TheVariants.{Ascii}
use Rattle.words.proofs.Bytes.{white-none, white-more, white-ends, white-by, white-run}
use Rattle.words.proofs.white_len.Goals as goal

pub returns-in-Ascii : goal.returns-in-Ascii
returns-in-Ascii c =
    let s = c.args.s.now in
    let first = IsFirst-from_position _ _ _ (λ y. is_ascii_white y ≡ false) (λ y. is_ascii_white y ≡ true) c.position.ensures.ran (YieldsList-from_slice s cc) (λ y q k. search (rules, tests)) (λ y q k. search (rules, tests)) in
    white-by s c.in-Ascii.is (c.unwrap_or.ensures ∙ sym (index_from_first (white_len Ascii) (λ y. is_ascii_white y ≡ false) (λ y. is_ascii_white y ≡ true) white-none (λ y t e. white-ends y t e) (λ y t e. omega (arith, white-more y t e)) s _ first))

pub returns-in-Unicode : goal.returns-in-Unicode
returns-in-Unicode c = search white-run
