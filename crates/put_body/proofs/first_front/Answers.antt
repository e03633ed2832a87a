use Rattle.put_body.proofs.Ends.{front_tilde, front_other}
use Rattle.put_body.proofs.first_front.Goals as goal

pub returns-then-byte_at-eq126 : goal.returns-then-byte_at-eq126
returns-then-byte_at-eq126 c = search front_tilde

pub returns-else-byte_at-eq126 : goal.returns-else-byte_at-eq126
returns-else-byte_at-eq126 c = search front_other
