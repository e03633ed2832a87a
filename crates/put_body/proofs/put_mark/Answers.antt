use Rattle.put_body.proofs.Turns.{mark_nothing, mark_space, mark_hard}
use Rattle.put_body.proofs.put_mark.Goals as goal

pub returns-in-Nothing : goal.returns-in-Nothing
returns-in-Nothing c = search mark_nothing

pub returns-in-Space : goal.returns-in-Space
returns-in-Space c = search mark_space

pub returns-in-Hard : goal.returns-in-Hard
returns-in-Hard c = search mark_hard
