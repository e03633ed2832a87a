use Prim.Native.Nat.{◌≤◌, max}
use lib.ListN.{length}
use mathlib.Core.Path.{◌≡◌}
use Rattle.parts.specs.Bytes.{part}
use Rattle.attrs.specs.Attr.{pairs_in}
use Rattle.attrs.proofs.next_pair.Given as goal

abbrev pub invariant-loop-first : goal.invariant-loop-first
invariant-loop-first l = (l.start ≤ max l.initial.start (length l.source)) × (pairs_in (part l.source l.start l.len) ≡ pairs_in (part l.source l.initial.start l.initial.len))

abbrev pub decreases-loop-first : goal.decreases-loop-first
decreases-loop-first l = l.len
