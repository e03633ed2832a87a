use Rattle.tape.specs.File.{contents}
use Rattle.walk.proofs.Whole.{no_room, room, copied}
use borrow.Author.Rules.{rules}
use Rattle.walk.proofs.write_aside.Goals as goal

pub returns-then-out-n : goal.returns-then-out-n
returns-then-out-n c = no_room (contents c.args.book.now.tape) _ _ c.write_text-n.ensures.value c.if-out-n.true

pub returns-then-n-aside : goal.returns-then-n-aside
returns-then-n-aside c = copied (contents c.args.book.now.tape) c.args.aside.now _ c.args.out.now _ c.write_text-n.ensures.value c.write_text-n.ensures.out_after c.if-out-n.false (search rules) c.part.ensures.bytes c.put_run.ensures

pub returns : goal.returns
returns c = room (contents c.args.book.now.tape) _ c.args.out.now _ c.write_text-n.ensures.value c.if-out-n.false c.write_text.ensures.out_after
