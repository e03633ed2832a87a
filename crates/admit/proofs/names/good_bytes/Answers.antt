use Rattle.std.proofs.Common.{ℕ, ◌∙◌, refl, sym, rules}
use borrow.Author.Tests.{tests}
use Rattle.std.specs.Bool.{Decides}
use Rattle.std.specs.Char.{is_ascii_graphic}
use Rattle.std.specs.List.{list_all}
use Rattle.std.proofs.lemmas.Bool.Decides.{Decides-by_and}
use Rattle.std.proofs.lemmas.Iterator.{YieldsList-from_slice}
use Rattle.std.proofs.lemmas.Iterator.Search.{all_from_yields_List}
use Rattle.std.proofs.lemmas.List.Elements.{All-get_or, All-from_get_or}
use Rattle.admit.specs.Pieces.{GoodByte}
use Rattle.admit.proofs.names.good_bytes.Goals as goal

graphic : (x : ℕ) → Decides (is_ascii_graphic x) (GoodByte x)
graphic x = search (rules, tests)

pub returns : goal.returns
returns c =
    let s = c.args.s.now in
    let answer =
    all_from_yields_List is_ascii_graphic _ _ _ c.all.ensures.ran (YieldsList-from_slice s cc) (λ x b q k. search (rules, tests)) in
    let all = Decides-by_and is_ascii_graphic GoodByte (list_all is_ascii_graphic) graphic refl (λ _ _. refl) s in
    (λ e i l. All-get_or GoodByte s i 0 l (all.0 (sym answer ∙ e)), λ g. answer ∙ all.1 (All-from_get_or GoodByte s 0 g))
