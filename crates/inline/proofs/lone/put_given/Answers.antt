use Rattle.inline.proofs.Alone.{given_drawn}
use Rattle.inline.proofs.lone.put_given.Goals as goal

pub returns : goal.returns
returns c = given_drawn _ _ _ _ _ _ c.open_char.ensures c.attr_as_it_stands.ensures c.put_held.ensures
