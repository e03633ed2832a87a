use mathlib.Core.Path.{refl}
use Rattle.attrs.proofs.Walks.{sought_none, sought_found, sought_on, next_less}
use Rattle.attrs.proofs.first_with.Goals as goal

pub loop-attribute-init : goal.loop-attribute-init
loop-attribute-init c = refl

pub returns : goal.returns
returns c = search sought_none

pub returns-then-is_key : goal.returns-then-is_key
returns-then-is_key c = search sought_found

pub loop-attribute-smaller : goal.loop-attribute-smaller
loop-attribute-smaller c = search next_less

pub loop-attribute-preserved : goal.loop-attribute-preserved
loop-attribute-preserved c = search sought_on
