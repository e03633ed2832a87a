use Prim.Native.Nat.{◌-◌}
use lib.ListN.{length}
use Rattle.walk.proofs.+write_in.Given as goal

abbrev pub decreases-write_in : goal.decreases-write_in
decreases-write_in l = 1024 - length l.table.now
