use mathlib.Core.Path.{sym}
use lib.Seq.{set_out}
use Rattle.told.proofs.tell.Goals as goal

pub returns-else-at-numbers : goal.returns-else-at-numbers
returns-else-at-numbers c = sym (set_out c.args.numbers.now c.args.at c.args.n c.if-at-numbers.false)
