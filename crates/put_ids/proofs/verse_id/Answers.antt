use Rattle.put_ids.proofs.Idents.{verse-id}
use Rattle.put_ids.proofs.verse_id.Goals as goal

pub returns : goal.returns
returns c = search verse-id
