use native.Mathlib.Omega.{arith}
use Rattle.window.proofs.Front.{front_laid}
use Rattle.window.proofs.Window.put_front.Goals as goal

pub returns-then-n-self : goal.returns-then-n-self
returns-then-n-self c = front_laid _ _ _ _ _ (omega arith) (omega arith) (omega arith) c.lay_front.ensures
