use mathlib.Core.Path.{◌≡◌}
use lib.ListN.{drop}
use Rattle.window.specs.Page.{paint, page_of}
use Rattle.window.proofs.Window.put_each.Given as goal

abbrev pub invariant-loop-x : goal.invariant-loop-x
invariant-loop-x l = paint (page_of l.self l.out) (drop l.x-index l.run) ≡ paint (page_of l.initial.self l.initial.out) l.run
