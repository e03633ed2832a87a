use Rattle.std.proofs.Common.{◌∙◌}
use Prim.Native.Nat.{◌+◌, ◌≤◌}
use native.Mathlib.Omega.{arith}
use lib.ListN.{length}
use Rattle.source_index.proofs.Firsts.{gap_dull, gap_not, gap_past, gap_read, width_fits}
use Rattle.source_index.proofs.gap_at.Goals as goal
use Rattle.source_index.proofs.gap_at.Goals.{else-i-s-via-then-i-s+else-opens, else-i-s-via-else-i-s}

pub overflow_add-i : goal.overflow_add-i
overflow_add-i c =
    let fits : c.args.i + c.first_char-c.result.width ≤ length c.args.s.now = search width_fits in omega arith

pub returns-then-is_white : goal.returns-then-is_white
returns-then-is_white c = search gap_read

pub returns-else-is_white : goal.returns-else-is_white
returns-else-is_white c = c.if-is_white.false ∙ search gap_not

pub returns-else-i-s : goal.returns-else-i-s
returns-else-i-s c =
    elim c.else-i-s.branch [
      | else-i-s-via-then-i-s+else-opens w ↦ gap_dull _ _ w.if-i-s.true w.opens.ensures w.if-opens.false
      | else-i-s-via-else-i-s w ↦ gap_past _ _ w.if-i-s.false
    ]
