use Rattle.std.proofs.Common.{rules}
use Rattle.tape.specs.File.{contents}
use Rattle.render.specs.Shape.{is_attribute}
use Rattle.figure.proofs.Figures.{legacy_none, legacy_today, legacy_found}
use Rattle.figure.proofs.legacy.Goals as goal

pub returns-in_err-a : goal.returns-in_err-a
returns-in_err-a c = rw c.from_residual.ensures (search (legacy_none, c.in_err-a.was, c.find.ensures (is_attribute (contents c.args.tape.now)) (λ x r q. search rules)))

pub returns-then-find_byte-body : goal.returns-then-find_byte-body
returns-then-find_byte-body c = search (legacy_today, c.in_ok-a.was, c.find.ensures (is_attribute (contents c.args.tape.now)) (λ x r q. search rules))

pub returns-else-find_byte-body : goal.returns-else-find_byte-body
returns-else-find_byte-body c = search (legacy_found, c.in_ok-a.was, c.find.ensures (is_attribute (contents c.args.tape.now)) (λ x r q. search rules))
