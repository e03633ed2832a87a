use mathlib.Core.Path.{sym, ap, ◌∙◌}
use mathlib.Core.Bool.{not}
use borrow.Author.Tests.{lt-ltb}
use Rattle.put_body.proofs.Frames.{front_short, front_none, front_one, front_two, clash}
use Rattle.put_body.proofs.frame.white_front.Goals as goal
use Rattle.put_body.proofs.frame.white_front.Goals.{then-size-lt2, else-size-lt2}

pub returns-then-not-is_ascii_white-clause-value : goal.returns-then-not-is_ascii_white-clause-value
returns-then-not-is_ascii_white-clause-value c = elim c.if-size-lt2.branch [
  | then-size-lt2 w ↦ front_short _ _ w.if-size-lt2.true
  | else-size-lt2 w ↦ front_none _ _ w.if-size-lt2.false w.is_ascii_white.ensures w.byte_at.ensures (sym w.value-is ∙ c.if-not-is_ascii_white.true)
]

pub returns-then-not-is_ascii_white-2-clause-value : goal.returns-then-not-is_ascii_white-2-clause-value
returns-then-not-is_ascii_white-2-clause-value c = elim c.if-size-lt2.branch [
  | then-size-lt2 w ↦ clash w.value-is (lt-ltb _ 2 w.if-size-lt2.true) c.if-not-is_ascii_white.false
  | else-size-lt2 w ↦ front_one _ _ w.if-size-lt2.false w.is_ascii_white.ensures w.byte_at.ensures (sym w.value-is ∙ c.if-not-is_ascii_white.false) c.is_ascii_white-else-not-is_ascii_white.ensures c.byte_at-else-not-is_ascii_white.ensures (ap not c.if-not-is_ascii_white-2.true)
]

pub returns-else-not-is_ascii_white-2-clause-value : goal.returns-else-not-is_ascii_white-2-clause-value
returns-else-not-is_ascii_white-2-clause-value c = elim c.if-size-lt2.branch [
  | then-size-lt2 w ↦ clash w.value-is (lt-ltb _ 2 w.if-size-lt2.true) c.if-not-is_ascii_white.false
  | else-size-lt2 w ↦ front_two _ _ w.if-size-lt2.false w.is_ascii_white.ensures w.byte_at.ensures (sym w.value-is ∙ c.if-not-is_ascii_white.false) c.is_ascii_white-else-not-is_ascii_white.ensures c.byte_at-else-not-is_ascii_white.ensures (ap not c.if-not-is_ascii_white-2.false)
]
