use mathlib.Core.Path.{◌≡◌, refl, ◌∙◌}
use denote.Enum.Bare.{sameb}
use Rattle.roles.specs.Roles.{role_in}
use Rattle.roles.specs.contracts.Role.{the_type}
use Rattle.roles.specs.declared.Role.{Role}
use Rattle.roles.specs.declared.Role.TheVariants.{UnknownBlock, UnknownInline, Unwritten, Figure, Ref, Id, Note, Ms, Char, Para}
use Rattle.accepts.specs.Proviso.{is_id}
use Rattle.names.proofs.is_id.Goals as goal

same_id : (r : Role) → sameb the_type r Id ≡ is_id (role_in r)
unfolding role_in is_id
same_id UnknownBlock = refl
same_id UnknownInline = refl
same_id Unwritten = refl
same_id Figure = refl
same_id Ref = refl
same_id Id = refl
same_id Note = refl
same_id Ms = refl
same_id Char = refl
same_id Para = refl

pub returns : goal.returns
returns c = c.eq.ensures ∙ same_id c.args.role
