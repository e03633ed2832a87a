use Rattle.tape.specs.File.{contents}
use Rattle.render.specs.Shape.{is_content_of}
use Rattle.std.proofs.Common.{rules}
use Rattle.render.proofs.Finds.{content_found}
use Rattle.render.proofs.children.has_content.Goals as goal

pub returns : goal.returns
returns c = search (content_found, c.find.ensures (is_content_of (contents c.args.book.now.tape)) (λ x r q. search rules))
