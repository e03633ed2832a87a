use Rattle.window.specs.Page.{dab, paint}
use Rattle.window.proofs.Window.put.Goals as goal

pub returns : goal.returns
unfolding paint dab
returns c = cc
