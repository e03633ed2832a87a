use Rattle.told.proofs.Reviews.{refused-named, kept_named, broken-named}
use Rattle.told.proofs.find_names.Goals as goal

pub returns-in-Refused : goal.returns-in-Refused
returns-in-Refused c = search refused-named

pub returns-in-Kept : goal.returns-in-Kept
returns-in-Kept c = search kept_named

pub returns-in-Broken : goal.returns-in-Broken
returns-in-Broken c = search broken-named
