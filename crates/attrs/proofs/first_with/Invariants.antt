use mathlib.Core.Path.{◌≡◌}
use lib.ListN.{length}
use Rattle.tape.specs.File.{contents}
use Rattle.attrs.specs.Walk.{remaining, first_of}
use Rattle.attrs.proofs.first_with.Given as goal

abbrev pub invariant-loop-attribute : goal.invariant-loop-attribute
invariant-loop-attribute l = first_of l.key (remaining (contents l.tape) l.marker l.attrs) ≡ first_of l.key (remaining (contents l.tape) l.marker l.initial.attrs)

abbrev pub decreases-loop-attribute : goal.decreases-loop-attribute
decreases-loop-attribute l = length (remaining (contents l.tape) l.marker l.attrs)
