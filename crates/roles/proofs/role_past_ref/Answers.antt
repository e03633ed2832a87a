use Rattle.roles.proofs.Roles.{entry-id, entry-identification, entry_other}
use Rattle.roles.proofs.role_past_ref.Goals as goal

pub returns-then-same : goal.returns-then-same
returns-then-same c = search entry-id

pub returns-else-same : goal.returns-else-same
returns-else-same c = search entry-identification

pub returns-then-category-ne-IDENTIFICATION : goal.returns-then-category-ne-IDENTIFICATION
returns-then-category-ne-IDENTIFICATION c = search entry_other
