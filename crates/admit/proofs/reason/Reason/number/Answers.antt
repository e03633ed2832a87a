use Rattle.std.proofs.Common.{◌≡◌, ◌+◌, refl}
use Rattle.admit.specs.Refusal.{reason_number}
use Rattle.admit.specs.declared.reason.Reason.{Reason}
use Rattle.admit.specs.declared.reason.Reason.TheVariants.{Layout, Limits, Source, Names, Nodes, Depth, Nesting}
use Rattle.admit.specs.contracts.reason.Reason.{the_type}
use denote.Enum.Declared.{tag_of}
use Rattle.admit.proofs.reason.Reason.number.Goals as goal

tag_is : (e : Reason) → tag_of the_type e + 1 ≡ reason_number e
unfolding reason_number
tag_is Layout = refl
tag_is Limits = refl
tag_is Source = refl
tag_is Names = refl
tag_is Nodes = refl
tag_is Depth = refl
tag_is Nesting = refl

pub returns : goal.returns
returns c = tag_is c.args.self
