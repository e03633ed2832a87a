use Rattle.put_body.proofs.Easy.{easy_space, easy_scan}
use Rattle.put_body.proofs.is_easy.Goals as goal

pub returns-then-byte_at-ne32 : goal.returns-then-byte_at-ne32
returns-then-byte_at-ne32 c = search easy_scan

pub returns-else-byte_at-ne32 : goal.returns-else-byte_at-ne32
returns-else-byte_at-ne32 c = search easy_space
