use Rattle.std.proofs.Common.{◌∙◌}
use mathlib.Core.Bool.{◌&&◌, ◌||◌, or_assoc}
use lib.Dec.{eqb}
use Rattle.chars.specs.Escape.{special}
use Rattle.window.proofs.special.Goals as goal

pub returns : goal.returns
unfolding special
returns c =
    let x = c.args.x in
    let quote = c.args.attr && eqb x 34 in
    or_assoc (eqb x 60 || eqb x 62) (eqb x 38) quote ∙ or_assoc (eqb x 60) (eqb x 62) (eqb x 38 || quote)
