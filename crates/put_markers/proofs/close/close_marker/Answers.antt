use Rattle.put_markers.proofs.Closes.{block_end, inline_end, unwritten_end, figure_end, ref_end, id_end, note_end, ms_end, char_end, para_end}
use Rattle.put_markers.proofs.close.close_marker.Goals as goal

pub returns-in-UnknownBlock : goal.returns-in-UnknownBlock
returns-in-UnknownBlock c = search block_end

pub returns-in-UnknownInline : goal.returns-in-UnknownInline
returns-in-UnknownInline c = search inline_end

pub returns-in-Unwritten : goal.returns-in-Unwritten
returns-in-Unwritten c = search unwritten_end

pub returns-in-Figure : goal.returns-in-Figure
returns-in-Figure c = search figure_end

pub returns-in-Ref : goal.returns-in-Ref
returns-in-Ref c = search ref_end

pub returns-in-Id : goal.returns-in-Id
returns-in-Id c = search id_end

pub returns-in-Note : goal.returns-in-Note
returns-in-Note c = search note_end

pub returns-in-Ms : goal.returns-in-Ms
returns-in-Ms c = search ms_end

pub returns-in-Char : goal.returns-in-Char
returns-in-Char c = search char_end

pub returns-in-Para : goal.returns-in-Para
returns-in-Para c = search para_end
