use mathlib.Core.Path.{◌≡◌}
use lib.ListN.{drop}
use Rattle.chars.specs.Space.{searched}
use Rattle.chars.proofs.listed.Given as goal

abbrev pub invariant-loop-w : goal.invariant-loop-w
invariant-loop-w l = searched l.code (drop l.w-index l.table) ≡ searched l.code l.table
