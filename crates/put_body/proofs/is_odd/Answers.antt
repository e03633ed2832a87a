use mathlib.Core.Bool.{◌&&◌, or_assoc}
use lib.Dec.{eqb, ltb}
use Rattle.put_body.specs.Body.{odd}
use Rattle.put_body.proofs.is_odd.Goals as goal

pub returns : goal.returns
unfolding odd
returns c = let x = c.args.x in or_assoc (ltb x 32) (eqb x 126) (eqb x 32 && ltb c.args.y 33)
