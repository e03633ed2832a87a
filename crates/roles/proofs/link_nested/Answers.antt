use Rattle.roles.proofs.Roles.{link-some, link-none}
use Rattle.roles.proofs.link_nested.Goals as goal

pub returns-then-can_link : goal.returns-then-can_link
returns-then-can_link c = search link-some

pub returns-else-can_link : goal.returns-else-can_link
returns-else-can_link c = search link-none
