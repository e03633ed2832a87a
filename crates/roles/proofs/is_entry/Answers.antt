use Rattle.roles.proofs.Roles.{entry_short, entry-same}
use Rattle.roles.proofs.is_entry.Goals as goal

pub returns-else-name-short : goal.returns-else-name-short
returns-else-name-short c = search entry_short

pub returns-then-name-short : goal.returns-then-name-short
returns-then-name-short c = search entry-same
