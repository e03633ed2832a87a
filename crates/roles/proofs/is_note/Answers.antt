use mathlib.Core.Path.{◌≡◌, refl, sym, ap, ◌∙◌}
use denote.Enum.Bare.{sameb}
use Rattle.roles.specs.contracts.Role.{the_type}
use Rattle.roles.specs.declared.Role.{Role}
use Rattle.roles.specs.declared.Role.TheVariants.{UnknownBlock, UnknownInline, Unwritten, Figure, Ref, Id, Note, Ms, Char, Para}
use Rattle.roles.specs.Roles.{role_in, manner_of, manner_by}
use Rattle.roles.proofs.is_note.Goals as goal

note_manner : (r : Role) → manner_of (role_in r) ≡ manner_by (sameb the_type r Note)
unfolding role_in manner_of manner_by
note_manner UnknownBlock = refl
note_manner UnknownInline = refl
note_manner Unwritten = refl
note_manner Figure = refl
note_manner Ref = refl
note_manner Id = refl
note_manner Note = refl
note_manner Ms = refl
note_manner Char = refl
note_manner Para = refl

pub returns : goal.returns
returns c = note_manner c.args.role ∙ ap manner_by (sym c.eq.ensures)
