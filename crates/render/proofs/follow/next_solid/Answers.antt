use Rattle.render.specs.Follow.{is_solid}
use mathlib.Core.Path.{◌≡◌}
use Rattle.tape.specs.File.{contents}
use Rattle.tape.specs.Tree.{next_sibling}
use Rattle.render.proofs.follow.next_solid.Goals.{in_default-via-in-Some+else-is_clear, in_default-via-in_default}
use Rattle.std.proofs.Common.{rules}
use Rattle.render.proofs.Follows.{solid_clear, solid-found}
use Rattle.render.proofs.follow.next_solid.Goals as goal

pub returns-in-Some : goal.returns-in-Some
returns-in-Some c = search solid_clear

pub returns-in_default : goal.returns-in_default
returns-in_default c =
    let next : c.in_default.next ≡ next_sibling (contents c.args.book.now.tape) c.args.c.at =
    elim c.in_default.branch [ in_default-via-in-Some+else-is_clear w ↦ cc | in_default-via-in_default w ↦ cc ] in
    solid-found _ _ next (c.find.ensures (is_solid (contents c.args.book.now.tape)) (λ x r q. search rules))
