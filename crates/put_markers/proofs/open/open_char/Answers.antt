use Rattle.put_markers.proofs.Opens.{char-linked, char_flat}
use Rattle.put_markers.proofs.open.open_char.Goals as goal

pub returns-then-is_nested : goal.returns-then-is_nested
returns-then-is_nested c = search char-linked

pub returns-else-is_nested : goal.returns-else-is_nested
returns-else-is_nested c = search char_flat
