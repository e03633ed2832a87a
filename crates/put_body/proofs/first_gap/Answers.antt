use Rattle.put_body.proofs.Tests.{gap_none, gap_tilde, gap_white, gap_plain}
use Rattle.put_body.proofs.first_gap.Goals as goal

pub returns-in-Some-eq126-default : goal.returns-in-Some-eq126-default
returns-in-Some-eq126-default c = let w = c.in-Some-eq126-default in gap_tilde _ w.ensures.cases.0 w.field-0-0-test

pub returns-in-Some : goal.returns-in-Some
returns-in-Some c = let w = c.in-Some in gap_white _ w.ensures.cases.0 w.x-test.1 c.is_ascii_white.ensures c.if-is_ascii_white.true c.white_gap.ensures

pub returns-in_default : goal.returns-in_default
returns-in_default c = let w = c.in-Some in gap_plain _ w.ensures.cases.0 w.x-test.1 c.is_ascii_white.ensures c.if-is_ascii_white.false

pub returns-in_default-2 : goal.returns-in_default-2
returns-in_default-2 c = gap_none _ (rw c.in_default.is at c.split_first.ensures.cases)
