use Rattle.names.proofs.Keys.{key_own, key_fixed}
use Rattle.names.proofs.test_key.Goals as goal

pub returns-in-Own : goal.returns-in-Own
returns-in-Own c = search key_own

pub returns-in-Fixed : goal.returns-in-Fixed
returns-in-Fixed c = search key_fixed
