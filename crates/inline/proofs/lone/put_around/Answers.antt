use Rattle.inline.proofs.Alone.{around-bare, around-given}
use Rattle.inline.proofs.lone.put_around.Goals as goal

pub returns-in_default : goal.returns-in_default
returns-in_default c = search around-bare

pub returns : goal.returns
returns c = search around-given
