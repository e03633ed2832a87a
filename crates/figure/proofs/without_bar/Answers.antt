use Rattle.tape.proofs.NameRule.{strip-some, strip-none}
use Rattle.figure.proofs.without_bar.Goals as goal

pub returns-then-begins_with : goal.returns-then-begins_with
returns-then-begins_with c = search strip-some

pub returns-else-begins_with : goal.returns-else-begins_with
returns-else-begins_with c = search strip-none
