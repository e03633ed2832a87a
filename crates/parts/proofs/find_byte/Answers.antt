use Rattle.std.proofs.Common.{rules, tests}
use mathlib.Core.Path.{◌≡◌, sym, ◌∙◌}
use mathlib.Core.List.{[], ◌∷◌}
use Rattle.std.proofs.lemmas.Iterator.{YieldsList-from_slice, IsFirst-from_position, index_from_first}
use Rattle.parts.specs.Bytes.{find}
use Rattle.parts.proofs.Laws.{find-none, find-hit, find-miss}
use Rattle.parts.proofs.find_byte.Goals as goal

pub returns : goal.returns
returns c =
    let x = c.args.x in
    let first = IsFirst-from_position _ _ _ (λ y. y ≡ x) (λ y. y ≡ x → ⊥) c.position.ensures.ran (YieldsList-from_slice c.args.s.now cc) (λ y q k. search (rules, tests)) (λ y q k. search (rules, tests)) in
    c.unwrap_or.ensures ∙ sym (index_from_first (find (x ∷ [])) (λ y. y ≡ x) (λ y. y ≡ x → ⊥) (find-none (x ∷ [])) (find-hit x) (find-miss x) c.args.s.now _ first)
