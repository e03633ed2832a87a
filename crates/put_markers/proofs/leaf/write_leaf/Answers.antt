use Rattle.put_markers.proofs.Leaves.{block-leaf, inline-leaf, unwritten_leaf, figure-leaf, ref-leaf, id-leaf, note-leaf, ms-leaf, char-leaf, para-leaf}
use Rattle.put_markers.proofs.leaf.write_leaf.Goals as goal

pub returns-in-UnknownBlock : goal.returns-in-UnknownBlock
returns-in-UnknownBlock c = search block-leaf

pub returns-in-UnknownInline : goal.returns-in-UnknownInline
returns-in-UnknownInline c = search inline-leaf

pub returns-in-Unwritten : goal.returns-in-Unwritten
returns-in-Unwritten c = search unwritten_leaf

pub returns-in-Figure : goal.returns-in-Figure
returns-in-Figure c = search figure-leaf

pub returns-in-Ref : goal.returns-in-Ref
returns-in-Ref c = search ref-leaf

pub returns-in-Id : goal.returns-in-Id
returns-in-Id c = search id-leaf

pub returns-in-Note : goal.returns-in-Note
returns-in-Note c = search note-leaf

pub returns-in-Ms : goal.returns-in-Ms
returns-in-Ms c = search ms-leaf

pub returns-in-Char : goal.returns-in-Char
returns-in-Char c = search char-leaf

pub returns-in-Para : goal.returns-in-Para
returns-in-Para c = search para-leaf
