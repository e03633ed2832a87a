use Rattle.std.proofs.Common.{length, ◌≤◌, ◌-◌, ◌+◌}
use Rattle.test_render_dump.proofs.texts_of.body_into.Given as goal

abbrev pub invariant-loop-part : goal.invariant-loop-part
invariant-loop-part l = l.part.start + l.part.len ≤ length l.s

abbrev pub decreases-loop-part : goal.decreases-loop-part
decreases-loop-part l = length l.s - l.part.start
