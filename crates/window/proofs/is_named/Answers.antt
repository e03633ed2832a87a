use native.Mathlib.Omega.{arith}
use Rattle.window.proofs.Escape.{plain_low, plain_high}
use Rattle.window.proofs.is_named.Goals as goal

pub returns-else-matches : goal.returns-else-matches
returns-else-matches c = search (plain_low, plain_high, arith)
