use Rattle.put_markers.proofs.Opens.{block-marker, inline-marker, unwritten_marker, figure-marker, ref-marker, id-marker, note-marker, ms-marker, char-marker, para-marker}
use Rattle.put_markers.proofs.open.open_marker.Goals as goal

pub returns-in-UnknownBlock : goal.returns-in-UnknownBlock
returns-in-UnknownBlock c = search block-marker

pub returns-in-UnknownInline : goal.returns-in-UnknownInline
returns-in-UnknownInline c = search inline-marker

pub returns-in-Unwritten : goal.returns-in-Unwritten
returns-in-Unwritten c = search unwritten_marker

pub returns-in-Figure : goal.returns-in-Figure
returns-in-Figure c = search figure-marker

pub returns-in-Ref : goal.returns-in-Ref
returns-in-Ref c = search ref-marker

pub returns-in-Id : goal.returns-in-Id
returns-in-Id c = search id-marker

pub returns-in-Note : goal.returns-in-Note
returns-in-Note c = search note-marker

pub returns-in-Ms : goal.returns-in-Ms
returns-in-Ms c = search ms-marker

pub returns-in-Char : goal.returns-in-Char
returns-in-Char c = search char-marker

pub returns-in-Para : goal.returns-in-Para
returns-in-Para c = search para-marker
