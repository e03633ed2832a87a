use Rattle.std.proofs.Common.{rules}
use Rattle.tape.specs.File.{contents}
use Rattle.render.specs.Shape.{is_text}
use Rattle.render.proofs.Finds.{text-found}
use Rattle.render.proofs.children.first_text.Goals as goal

pub returns : goal.returns
returns c = search (text-found, c.find.ensures (is_text (contents c.args.tape.now)) (λ x r q. search rules))
