use Rattle.put_chapters.proofs.Marked.{chapter-emitted}
use Rattle.put_chapters.proofs.chapter.Goals as goal

pub returns : goal.returns
returns c = search chapter-emitted
