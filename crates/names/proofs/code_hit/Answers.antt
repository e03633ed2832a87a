use Rattle.names.proofs.Places.{code_none, code_tested}
use Rattle.names.proofs.code_hit.Goals as goal

pub returns-then-not-has_code : goal.returns-then-not-has_code
returns-then-not-has_code c = search code_none

pub returns : goal.returns
returns c = search code_tested
