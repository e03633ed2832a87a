use Rattle.put_chapters.proofs.Marked.{book-emitted}
use Rattle.put_chapters.proofs.book.Goals as goal

pub returns : goal.returns
returns c = search book-emitted
