use Rattle.usx.proofs.Answers.{shown-refused, shown}
use Rattle.usx.proofs.window.Goals as goal

pub returns-in-Err : goal.returns-in-Err
returns-in-Err c = search shown-refused

pub returns-in-Ok : goal.returns-in-Ok
returns-in-Ok c = search shown
