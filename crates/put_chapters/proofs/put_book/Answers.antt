use Rattle.put_chapters.proofs.Marked.{book-alone, book-around}
use Rattle.put_chapters.proofs.put_book.Goals as goal

pub returns-then-is_blank : goal.returns-then-is_blank
returns-then-is_blank c = search book-alone

pub returns-else-is_blank : goal.returns-else-is_blank
returns-else-is_blank c = search book-around
