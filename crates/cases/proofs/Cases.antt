-- Every case of the table holds: each by computation.
use mathlib.Core.Path.{refl}
use Rattle.events.specs.Rows.{Each}
use Rattle.events.proofs.Answered.{answered}
use Rattle.checker.proofs.Example.{computed, judged_by}
use Rattle.cases.specs.Table.{HoldsCase, table}

-- "the cases marked P are proved together, one statement over one table"
pub cases : Each HoldsCase table
unfolding answered computed
cases =
    ((refl, tt), ((refl, tt), ((refl, tt), ((refl, tt), ((refl, tt), ((refl, tt), ((refl, tt), ((refl, tt), ((refl, tt), ((refl, tt), ((refl, tt), ((refl, tt), ((refl, tt), ((refl, tt), ((refl, tt), ((refl, tt), ((refl, tt), ((refl, judged_by _ refl), ((refl, tt), tt)))))))))))))))))))
