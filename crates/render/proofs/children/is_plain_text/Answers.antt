use Rattle.std.proofs.Common.{rules}
use Rattle.tape.specs.File.{contents}
use Rattle.render.specs.Shape.{is_open}
use Rattle.render.proofs.Finds.{plain-found}
use Rattle.render.proofs.children.is_plain_text.Goals as goal

pub returns : goal.returns
returns c = search (plain-found, c.find.ensures (is_open (contents c.args.tape.now)) (λ x r q. search rules))
