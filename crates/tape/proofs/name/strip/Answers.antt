use Rattle.tape.proofs.NameRule.{strip-some, strip-none}
use Rattle.tape.proofs.Placed.{strip_none_at, strip_some_at}
use Rattle.tape.proofs.name.strip.Goals as goal

pub returns-then-begins_with : goal.returns-then-begins_with
returns-then-begins_with c = record { bytes = search strip-some; place = search strip_some_at }

pub returns-else-begins_with : goal.returns-else-begins_with
returns-else-begins_with c = record { bytes = search strip-none; place = search strip_none_at }
