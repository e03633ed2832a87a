use Rattle.std.proofs.Common.{◌∙◌}
use borrow.Author.Tests.{le-ltb}
use Rattle.source_index.proofs.Firsts.{byte_read, byte_past}
use Rattle.source_index.proofs.solid_byte.Goals as goal

pub returns-then-i-s : goal.returns-then-i-s
returns-then-i-s c = search byte_read

pub returns-else-i-s : goal.returns-else-i-s
returns-else-i-s c = le-ltb _ _ c.if-i-s.false ∙ byte_past _ _ c.if-i-s.false
