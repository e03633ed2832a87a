use mathlib.Core.Bool.{false}
use mathlib.Core.Path.{◌≡◌}
use lib.ListN.{length}
use Rattle.window.specs.Page.{paint, page_of}
use Rattle.chars.specs.Escape.{escape}
use Rattle.put_body.specs.Body.{rest_of}
use Rattle.put_body.proofs.put_rest.Given as goal

abbrev pub invariant-loop-rest : goal.invariant-loop-rest
invariant-loop-rest l = paint (page_of l.w l.out) (escape false (rest_of l.rest)) ≡ paint (page_of l.initial.w l.initial.out) (escape false (rest_of l.s))

abbrev pub decreases-loop-rest : goal.decreases-loop-rest
decreases-loop-rest l = length l.rest
