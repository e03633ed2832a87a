use Rattle.attrs.proofs.Pairs.{pairs-none, pair-first}
use Rattle.attrs.proofs.first_pair.Goals as goal

pub returns-then-s-eq : goal.returns-then-s-eq
returns-then-s-eq c = search pairs-none

pub returns : goal.returns
returns c = search pair-first
