use Rattle.std.proofs.Common.{◌∙◌}
use borrow.Author.Tests.{le-ltb}
use Rattle.source_index.proofs.Runs.{name-more, name-empty}
use Rattle.source_index.proofs.name_passes.Goals as goal

pub returns-then-at-p : goal.returns-then-at-p
returns-then-at-p c = search name-more

pub returns-else-at-p : goal.returns-else-at-p
returns-else-at-p c = λ t h. le-ltb _ _ c.if-at-p.false ∙ name-empty _ _ c.args.base c.next-p.ensures c.if-at-p.false t h
