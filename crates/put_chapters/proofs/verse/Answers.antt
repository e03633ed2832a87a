use Rattle.put_chapters.proofs.Marked.{verse-emitted}
use Rattle.put_chapters.proofs.verse.Goals as goal

pub returns : goal.returns
returns c = search verse-emitted
