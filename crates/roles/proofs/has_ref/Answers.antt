use Rattle.std.proofs.Common.{rules}
use Rattle.tape.specs.File.{contents}
use Rattle.events.specs.Walk.{is_ref}
use Rattle.roles.proofs.Roles.{ref_among}
use Rattle.roles.proofs.has_ref.Goals as goal

pub returns : goal.returns
returns c = search (ref_among, c.find.ensures (is_ref (contents c.args.tape.now)) (λ x r q. search rules))
