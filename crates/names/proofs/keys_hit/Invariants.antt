use lib.ListN.{length}
use Rattle.tape.specs.File.{contents}
use Rattle.attrs.specs.Walk.{remaining}
use Rattle.accepts.specs.Proviso.{keys_of}
use Rattle.names.proofs.Keys.{Onward}
use Rattle.names.proofs.keys_hit.Given as goal

abbrev pub invariant-loop-attribute : goal.invariant-loop-attribute
invariant-loop-attribute l = Onward (contents l.tape) (keys_of (remaining (contents l.tape) l.marker l.attrs)) (keys_of (remaining (contents l.tape) l.marker l.initial.attrs))

abbrev pub decreases-loop-attribute : goal.decreases-loop-attribute
decreases-loop-attribute l = length (remaining (contents l.tape) l.marker l.attrs)
