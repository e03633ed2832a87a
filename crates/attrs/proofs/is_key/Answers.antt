use Rattle.attrs.proofs.Keys.{key_is}
use Rattle.attrs.proofs.is_key.Goals as goal

pub returns : goal.returns
returns c = search key_is
