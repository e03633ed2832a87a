use Rattle.roles.proofs.Roles.{link_flat}
use Rattle.roles.proofs.link_of.Goals as goal

pub returns-then-not-is_nested : goal.returns-then-not-is_nested
returns-then-not-is_nested c = search link_flat
