use Rattle.accepts.specs.Proviso.{names_of}
use Rattle.names.proofs.Rows.{hit_here, hit_on}
use Rattle.names.proofs.name_hit.Goals as goal

pub returns-in-Some : goal.returns-in-Some
unfolding names_of
returns-in-Some c = search hit_here

pub returns-in-Some-label_hit : goal.returns-in-Some-label_hit
unfolding names_of
returns-in-Some-label_hit c = search (hit_here, hit_on)

pub returns : goal.returns
unfolding names_of
returns c = search hit_on
