use Rattle.std.proofs.Common.{length, ◌+◌, ◌-◌, ◌≤◌}
use Rattle.test_render_dump.proofs.holders.joined.Given as goal

abbrev pub invariant-loop-part : goal.invariant-loop-part
invariant-loop-part g l = l.part.start + l.part.len ≤ length l.s

abbrev pub decreases-loop-part : goal.decreases-loop-part
decreases-loop-part g l = length l.s - l.part.start
