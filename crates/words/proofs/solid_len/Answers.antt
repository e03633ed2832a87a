use native.Mathlib.Omega.{arith}
use Rattle.std.proofs.Common.{rules, tests}
use mathlib.Core.Path.{◌≡◌, sym, ◌∙◌}
use mathlib.Core.Bool.{true, false}
use mathlib.Core.List.{reverse}
use Rattle.std.proofs.lemmas.Iterator.{IsFirst-from_position, index_from_first}
use Rattle.std.proofs.lemmas.Iterator.Adapters.{YieldsList-from_rev_slice}
use Rattle.std.proofs.lemmas.List.{length-reverse}
use Rattle.chars.specs.Space.{is_ascii_white}
use Rattle.words.specs.Words.{white_len}
use Rattle.words.specs.declared.Set.TheVariants.{Ascii}
use Rattle.words.proofs.Bytes.{white-none, white-more, white-ends, trimmed-back, solid-by}
use Rattle.words.proofs.solid_len.Goals as goal

pub returns-in-Ascii : goal.returns-in-Ascii
returns-in-Ascii c =
    let s = c.args.s.now in
    let first = IsFirst-from_position _ _ _ (λ y. is_ascii_white y ≡ false) (λ y. is_ascii_white y ≡ true) c.position-white.ensures.ran (YieldsList-from_rev_slice s cc) (λ y q k. search (rules, tests)) (λ y q k. search (rules, tests)) in
    let n = index_from_first (white_len Ascii) (λ y. is_ascii_white y ≡ false) (λ y. is_ascii_white y ≡ true) white-none (λ y t e. white-ends y t e) (λ y t e. omega (arith, white-more y t e)) (reverse s) _ first in
    let back : c.unwrap_or.result ≡ white_len Ascii (reverse s) = c.unwrap_or.ensures ∙ sym (rw (length-reverse s) at n) in
    solid-by s c.in-Ascii.is (omega (arith, back, trimmed-back s))
