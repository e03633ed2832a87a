use Rattle.put_chapters.proofs.Marked.{ends-ended}
use Rattle.put_chapters.proofs.last_ends.Goals as goal

pub returns : goal.returns
returns c = search ends-ended
