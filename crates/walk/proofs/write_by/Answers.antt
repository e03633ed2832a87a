use Rattle.tape.specs.File.{contents}
use Rattle.walk.proofs.Whole.{window_walked, whole_walked}
use Rattle.walk.proofs.write_by.Goals as goal

pub returns-in-Whole : goal.returns-in-Whole
returns-in-Whole c = whole_walked (contents c.args.book.now.tape) c.args.out.now c.in-Whole.is (c.write_whole.ensures c.first_number-number.ensures)

pub returns-in-From : goal.returns-in-From
returns-in-From c = window_walked (contents c.args.book.now.tape) c.args.out.now c.in-From.is c.write_text.ensures.value c.write_text.ensures.out_after c.first_number-number.ensures
