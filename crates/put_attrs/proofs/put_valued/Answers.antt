use borrow.Author.Rules.{rules}
use Rattle.put_attrs.proofs.Listed.{valued-none, valued-some}
use Rattle.put_attrs.proofs.put_valued.Goals as goal

pub returns-then-not-is_empty : goal.returns-then-not-is_empty
returns-then-not-is_empty c = search (valued-some, rules)

pub returns-else-not-is_empty : goal.returns-else-not-is_empty
returns-else-not-is_empty c = search (valued-none, rules)
