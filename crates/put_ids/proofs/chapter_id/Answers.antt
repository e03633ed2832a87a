use Rattle.put_ids.proofs.Idents.{chapter-id}
use Rattle.put_ids.proofs.chapter_id.Goals as goal

pub returns : goal.returns
returns c = search chapter-id
