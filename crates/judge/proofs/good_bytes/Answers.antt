use Rattle.std.proofs.Common.{ℕ, length, ◌∙◌, refl, rules}
use mathlib.Core.Path.{◌≡◌, ap}
use mathlib.Core.Bool.{Bool, true, false, not, ◌&&◌, ◌||◌}
use mathlib.Core.List.{List, [], ◌∷◌}
use lib.ListN.{get_or}
use borrow.Author.Tests.{tests}
use Rattle.std.specs.Bool.{Decides}
use Rattle.std.specs.Char.{is_ascii_graphic}
use Rattle.std.specs.List.{list_all, list_any}
use Rattle.std.proofs.lemmas.Bool.Decides.{Decides-by_and, Decides-below_and, same_from_decides}
use Rattle.std.proofs.lemmas.List.Elements.{All-get_or, All-from_get_or}
use Rattle.admit.specs.Decide.{all_below, good_byte}
use Rattle.admit.specs.Pieces.{GoodByte}
use Rattle.judge.proofs.good_bytes.Goals as goal

graphic : (x : ℕ) → Decides (is_ascii_graphic x) (GoodByte x)
graphic x = search (rules, tests)

good : (x : ℕ) → Decides (good_byte x) (GoodByte x)
unfolding good_byte
good x = search (rules, tests)

-- no byte fails a test where all pass it
none_fails : (p : ℕ → Bool) (s : List ℕ) → not (list_any (λ x. not (p x)) s) ≡ list_all p s
none_fails p [] = refl
none_fails p (x ∷ s) = go (p x) (list_any (λ y. not (p y)) s) (none_fails p s)
  where
    go : (t a : Bool) {b : Bool} → not a ≡ b → not (not t || a) ≡ t && b
    go true a e = e
    go false a e = refl

pub returns : goal.returns
unfolding all_below
returns c =
    let s = c.args.s.now in
    let byte : ℕ → ℕ = λ i. get_or s i 0 in
    let all = Decides-by_and is_ascii_graphic GoodByte (list_all is_ascii_graphic) graphic refl (λ _ _. refl) s in
    let below =
    Decides-below_and (λ i. good_byte (byte i)) (λ i. GoodByte (byte i)) (all_below (λ i. good_byte (byte i))) (λ i. good (byte i)) refl (λ _. refl) (length s) in
    ap not (c.any_byte.ensures (λ x. not (is_ascii_graphic x)) (λ x r k. search (rules, tests)))
    ∙ none_fails is_ascii_graphic s
    ∙ same_from_decides _ _ (λ e k l. All-get_or GoodByte s k 0 l (all.0 e), λ g. all.1 (All-from_get_or GoodByte s 0 g)) below
