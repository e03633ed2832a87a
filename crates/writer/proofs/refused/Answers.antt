use Rattle.writer.proofs.StepRule.{refused_short, refused-odd, refused-other}
use Rattle.judge.proofs.NumberRule.{limited-by}
use Rattle.writer.proofs.refused.Goals as goal
use Rattle.writer.proofs.refused.Goals.{else-number-eq-ROOM-via-then-number-eq-ROOM+else-is_limited, else-number-eq-ROOM-via-else-number-eq-ROOM}

pub size-requires : goal.size-requires
size-requires c = search limited-by

pub returns-then-is_limited : goal.returns-then-is_limited
returns-then-is_limited c = search refused_short

pub returns-else-number-eq-ROOM : goal.returns-else-number-eq-ROOM
returns-else-number-eq-ROOM c =
    elim c.else-number-eq-ROOM.branch [
      | else-number-eq-ROOM-via-then-number-eq-ROOM+else-is_limited w ↦ search refused-odd
      | else-number-eq-ROOM-via-else-number-eq-ROOM w ↦ search refused-other
    ]
