use mathlib.Core.Path.{◌≡◌}
use lib.ListN.{length}
use Rattle.chars.specs.Escape.{escape}
use Rattle.window.specs.Page.{paint, page_of}
use Rattle.window.proofs.Window.escape_runs.Given as goal

abbrev pub invariant-loop-x : goal.invariant-loop-x
invariant-loop-x l = paint (page_of l.self l.out) (escape l.attr l.rest) ≡ paint (page_of l.initial.self l.initial.out) (escape l.attr l.s)

abbrev pub decreases-loop-x : goal.decreases-loop-x
decreases-loop-x l = length l.rest
