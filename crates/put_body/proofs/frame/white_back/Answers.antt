use mathlib.Core.Path.{sym, ◌∙◌}
use borrow.Author.Tests.{le-leb, lt-ltb}
use Rattle.put_body.proofs.Frames.{back_past, back_none, back_single, back_one, back_two, clash}
use Rattle.put_body.proofs.frame.white_back.Goals as goal
use Rattle.put_body.proofs.frame.white_back.Goals.{then-size-front, else-size-front, then-size-front-lt2, else-size-front-lt2}

pub returns-then-not-is_ascii_white-clause-value : goal.returns-then-not-is_ascii_white-clause-value
returns-then-not-is_ascii_white-clause-value c = elim c.if-size-front.branch [
  | then-size-front w ↦ back_past _ _ _ w.if-size-front.true
  | else-size-front w ↦ back_none _ _ _ w.if-size-front.false w.is_ascii_white.ensures w.byte_at.ensures (sym w.value-is ∙ c.if-not-is_ascii_white.true)
]

pub returns-then-not-is_ascii_white-2-clause-value : goal.returns-then-not-is_ascii_white-2-clause-value
returns-then-not-is_ascii_white-2-clause-value c = elim c.if-size-front.branch [
  | then-size-front w ↦ clash w.value-is (le-leb _ _ w.if-size-front.true) c.if-not-is_ascii_white.false
  | else-size-front w ↦
      elim c.if-size-front-lt2.branch [
        | then-size-front-lt2 v ↦ back_single _ _ _ w.if-size-front.false w.is_ascii_white.ensures w.byte_at.ensures (sym w.value-is ∙ c.if-not-is_ascii_white.false) v.if-size-front-lt2.true
        | else-size-front-lt2 v ↦ back_one _ _ _ w.if-size-front.false w.is_ascii_white.ensures w.byte_at.ensures (sym w.value-is ∙ c.if-not-is_ascii_white.false) v.if-size-front-lt2.false v.is_ascii_white-else-size-front-lt2.ensures v.byte_at-else-size-front-lt2.ensures (sym v.value-is ∙ c.if-not-is_ascii_white-2.true)
      ]
]

pub returns-else-not-is_ascii_white-2-clause-value : goal.returns-else-not-is_ascii_white-2-clause-value
returns-else-not-is_ascii_white-2-clause-value c = elim c.if-size-front.branch [
  | then-size-front w ↦ clash w.value-is (le-leb _ _ w.if-size-front.true) c.if-not-is_ascii_white.false
  | else-size-front w ↦ elim c.if-size-front-lt2.branch [
    | then-size-front-lt2 v ↦ clash v.value-is (lt-ltb _ 2 v.if-size-front-lt2.true) c.if-not-is_ascii_white-2.false
    | else-size-front-lt2 v ↦ back_two _ _ _ w.if-size-front.false w.is_ascii_white.ensures w.byte_at.ensures (sym w.value-is ∙ c.if-not-is_ascii_white.false) v.if-size-front-lt2.false v.is_ascii_white-else-size-front-lt2.ensures v.byte_at-else-size-front-lt2.ensures (sym v.value-is ∙ c.if-not-is_ascii_white-2.false)
  ]
]
