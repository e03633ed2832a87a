use Rattle.std.proofs.Common.{rules}
use Rattle.tape.specs.File.{contents}
use Rattle.render.specs.Shape.{is_category_marker_of}
use Rattle.render.proofs.Notes.{category-none, category-some}
use Rattle.render.proofs.note.category_text.Goals as goal

pub returns-in_err-d : goal.returns-in_err-d
returns-in_err-d c = rw c.from_residual.ensures (search (category-none, c.in_err-d.was, c.find.ensures (is_category_marker_of (contents c.args.tape.now)) (λ x r q. search rules)))

pub returns : goal.returns
returns c = search (category-some, c.in_ok-d.was, c.find.ensures (is_category_marker_of (contents c.args.tape.now)) (λ x r q. search rules))
