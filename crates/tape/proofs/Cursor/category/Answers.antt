use Rattle.tape.proofs.Laws.{category_known, category-unknown}
use Rattle.tape.proofs.Cursor.category.Goals as goal

pub returns-in-Some : goal.returns-in-Some
returns-in-Some c = search category_known

pub returns-in-None : goal.returns-in-None
returns-in-None c = search category-unknown
