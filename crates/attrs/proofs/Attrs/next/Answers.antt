use Rattle.attrs.proofs.Walks.{next-along, next-found}
use Rattle.attrs.proofs.Attrs.next.Goals as goal

pub returns-in-Some : goal.returns-in-Some
returns-in-Some c = search next-found

pub returns-in-None : goal.returns-in-None
returns-in-None c = search next-along
