use Rattle.put_attrs.proofs.Listed.{category_missing, category-written}
use Rattle.put_attrs.proofs.put_category.Goals as goal

pub returns-in_default : goal.returns-in_default
returns-in_default c = search category_missing

pub returns-in-Some : goal.returns-in-Some
returns-in-Some c = search category-written
