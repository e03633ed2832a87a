use mathlib.Core.Path.{◌≡◌, ◌∙◌}
use mathlib.Core.Bool.{◌&&◌}
use Rattle.texts.proofs.Texts.{both_true, both_false, normalized_blank, normalized-text}
use Rattle.texts.proofs.normalize_text.Goals as goal
use Rattle.texts.proofs.normalize_text.Goals.{After-ends_white, then-starts_white, else-starts_white}

pub returns-then-is_blank : goal.returns-then-is_blank
returns-then-is_blank c = search normalized_blank

-- the space in front, of either branch
lead_is : (c : After-ends_white) → c.if-starts_white.result ≡ c.starts_white.result && c.args.before
lead_is c = elim c.if-starts_white.branch [
  | then-starts_white w ↦ w.result-is ∙ both_true _ w.if-starts_white.true
  | else-starts_white w ↦ w.result-is ∙ w.if-starts_white.false ∙ both_false _ w.if-starts_white.false
]

pub returns-then-ends_white : goal.returns-then-ends_white
returns-then-ends_white c =
    let lead = lead_is (goal.at.returns-then-ends_white c).After-ends_white in
    normalized-text c.args.s.now c.args.before c.args.behind c.is_blank.ensures c.if-is_blank.false c.starts_white.ensures lead c.ends_white.ensures (both_true _ c.if-ends_white.true)

pub returns-else-ends_white : goal.returns-else-ends_white
returns-else-ends_white c =
    let lead = lead_is (goal.at.returns-else-ends_white c).After-ends_white in
    normalized-text c.args.s.now c.args.before c.args.behind c.is_blank.ensures c.if-is_blank.false c.starts_white.ensures lead c.ends_white.ensures (c.if-ends_white.false ∙ both_false _ c.if-ends_white.false)
