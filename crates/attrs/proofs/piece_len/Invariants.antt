use Prim.Native.Nat.{◌+◌}
use mathlib.Core.Path.{◌≡◌}
use lib.ListN.{drop}
use Rattle.parts.specs.Bytes.{b, find}
use Rattle.attrs.specs.Attr.{piece_len}
use Rattle.attrs.proofs.piece_len.Given as goal

abbrev pub invariant-loop-i : goal.invariant-loop-i
invariant-loop-i l = l.i + find (b "\\\"") (drop l.i l.s) ≡ piece_len l.s
