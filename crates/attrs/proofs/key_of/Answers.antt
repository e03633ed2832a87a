use Rattle.attrs.proofs.Keys.{key_own, key_fixed, own_at, fixed_at}
use Rattle.attrs.proofs.key_of.Goals as goal

pub returns-in-Own : goal.returns-in-Own
returns-in-Own c = record { bytes = search key_own; place = search own_at }

pub returns-in-Fixed : goal.returns-in-Fixed
returns-in-Fixed c = record { bytes = search key_fixed; place = search fixed_at }
