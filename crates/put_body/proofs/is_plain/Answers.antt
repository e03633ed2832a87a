use Rattle.put_body.proofs.Tests.{plain_other, plain_tilde}
use Rattle.put_body.proofs.is_plain.Goals as goal

pub returns-then-x-ne126 : goal.returns-then-x-ne126
returns-then-x-ne126 c = search plain_other

pub returns-else-x-ne126 : goal.returns-else-x-ne126
returns-else-x-ne126 c = search plain_tilde
