use mathlib.Core.Path.{◌≡◌}
use Prim.Native.Nat.{◌-◌}
use lib.ListN.{length}
use Rattle.parts.specs.Bytes.{Bytes}
use Rattle.events.specs.Emit.{emit_all}
use Rattle.desk.specs.Desk.{desk_of}
use Rattle.put_texts.specs.Broken.{breaks_from}
use Rattle.put_texts.proofs.put_segments.Given as goal

abbrev pub invariant-loop-place : goal.invariant-loop-place
invariant-loop-place l = ((source : Bytes) → emit_all (desk_of source l.desk l.out) (breaks_from l.s l.place) ≡ emit_all (desk_of source l.initial.desk l.initial.out) (breaks_from l.s l.initial.place)) × (length l.out ≡ length l.initial.out)

abbrev pub decreases-loop-place : goal.decreases-loop-place
decreases-loop-place l = length l.s - l.place
