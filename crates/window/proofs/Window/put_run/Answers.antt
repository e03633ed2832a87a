use Rattle.window.proofs.Run.{laid}
use Rattle.window.proofs.Window.put_run.Goals as goal

pub returns-in-Some : goal.returns-in-Some
returns-in-Some c = laid _ _ _ _ c.in-Some.ensures.1 c.in-Some.ensures.0 c.lay_run.ensures
