use Rattle.std.proofs.Common.{◌∙◌}
use borrow.Author.Tests.{le-ltb}
use Rattle.source_index.proofs.Firsts.{solid-past, solid_read}
use Rattle.source_index.proofs.solid_at.Goals as goal

pub returns-then-i-s : goal.returns-then-i-s
returns-then-i-s c = search solid_read

pub returns-else-i-s : goal.returns-else-i-s
returns-else-i-s c = le-ltb _ _ c.if-i-s.false ∙ solid-past _ _ c.if-i-s.false
