use Prim.Native.Nat.{◌+◌}
use mathlib.Core.Path.{◌≡◌}
use lib.ListN.{drop}
use Rattle.attrs.specs.Attr.{quoted_from, quoted_len}
use Rattle.attrs.proofs.quoted_len.Given as goal

abbrev pub invariant-loop-i : goal.invariant-loop-i
invariant-loop-i l = l.i + quoted_from l.last (drop l.i l.s) ≡ quoted_len l.s
