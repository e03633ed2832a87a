use Rattle.attrs.proofs.Walks.{bar_some, bar_none}
use Rattle.attrs.proofs.bar_len.Goals as goal

pub returns-then-begins_with : goal.returns-then-begins_with
returns-then-begins_with c = bar_some _ c.begins_with.ensures c.if-begins_with.true

pub returns-else-begins_with : goal.returns-else-begins_with
returns-else-begins_with c = bar_none _ c.begins_with.ensures c.if-begins_with.false
