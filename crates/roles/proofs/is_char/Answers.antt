use mathlib.Core.Path.{sym, ◌∙◌}
use borrow.Author.Tests.{ne_eqb}
use Rattle.roles.proofs.Roles.{never, char-told, inline-told}
use Rattle.roles.proofs.is_char.Goals.{then-e-eq-CHARACTER, else-e-eq-CHARACTER, then-not-is_entry, else-not-is_entry}
use Rattle.roles.proofs.is_char.Goals as goal

pub returns-then-not-is_entry-2 : goal.returns-then-not-is_entry-2
returns-then-not-is_entry-2 c =
    elim c.if-not-is_entry.branch [
      | then-not-is_entry w ↦
          elim c.if-e-eq-CHARACTER.branch [
            | then-e-eq-CHARACTER v ↦
                let usfm = sym v.value-is ∙ w.if-not-is_entry.true in
                let fig = sym w.value-is ∙ c.if-not-is_entry-2.true in
                record {
                  at_value = char-told _ _ c.marker_info.ensures c.in-Some.is v.if-e-eq-CHARACTER.true v.is_entry.ensures usfm w.is_entry-then-not-is_entry.ensures fig _ c.same.ensures;
                  at_value_2 = λ e. inline-told _ _ c.marker_info.ensures c.in-Some.is v.if-e-eq-CHARACTER.true;
                }
            | else-e-eq-CHARACTER v ↦ never (sym (v.value-is ∙ ne_eqb c.in-Some.e.category.code 4 v.if-e-eq-CHARACTER.false) ∙ w.if-not-is_entry.true)
          ]
      | else-not-is_entry w ↦ never (sym (w.value-is ∙ w.if-not-is_entry.false) ∙ c.if-not-is_entry-2.true)
    ]
