use Rattle.holders.proofs.Tags.{side_closed, peri_closed}
use Rattle.holders.proofs.close_holder.Goals as goal

pub returns-then-sidebar : goal.returns-then-sidebar
returns-then-sidebar c = λ source. side_closed _ _ (c.line.ensures source) c.if-sidebar.true (c.close_tag.ensures.on source)

pub returns-else-sidebar : goal.returns-else-sidebar
returns-else-sidebar c = λ source. peri_closed _ _ (c.line.ensures source) c.if-sidebar.false (c.close_tag-else-sidebar.ensures.on source)
