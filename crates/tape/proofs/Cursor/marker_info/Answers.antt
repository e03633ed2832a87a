use Rattle.tape.proofs.Laws.{info_known, info_unknown, info_plain}
use Rattle.tape.proofs.Cursor.marker_info.Goals as goal

pub returns-then-marker-tape : goal.returns-then-marker-tape
returns-then-marker-tape c = search info_known

pub returns-else-marker-tape : goal.returns-else-marker-tape
returns-else-marker-tape c = search info_unknown

pub returns-else-bears_marker : goal.returns-else-bears_marker
returns-else-bears_marker c = search info_plain
