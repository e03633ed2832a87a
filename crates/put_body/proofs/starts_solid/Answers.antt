use Rattle.put_body.proofs.Tests.{starts_none, starts_some}
use Rattle.put_body.proofs.starts_solid.Goals as goal

pub returns-then-not-is_empty : goal.returns-then-not-is_empty
returns-then-not-is_empty c = starts_some _ c.is_empty.ensures c.if-not-is_empty.true c.is_ascii_white.ensures

pub returns-else-not-is_empty : goal.returns-else-not-is_empty
returns-else-not-is_empty c = starts_none _ c.is_empty.ensures c.if-not-is_empty.false
