use Rattle.put_markers.proofs.Opens.{ends-synthetic}
use Rattle.put_markers.proofs.open.ends_synthetic.Goals as goal

pub returns : goal.returns
returns c = search ends-synthetic
