use Rattle.attrs.proofs.Walks.{of_empty, of_pairs, of_default}
use Rattle.attrs.proofs.pair_of.Goals as goal

pub returns-then-s-eq0 : goal.returns-then-s-eq0
returns-then-s-eq0 c = search of_empty

pub returns-then-find_byte-s : goal.returns-then-find_byte-s
returns-then-find_byte-s c = search of_pairs

pub returns : goal.returns
returns c = search of_default
