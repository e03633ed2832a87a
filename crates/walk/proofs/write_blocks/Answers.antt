use mathlib.Core.Path.{sym}
use lib.Seq.{length-take-le}
use borrow.Author.Rules.{rules}
use Rattle.walk.proofs.write_blocks.Goals as goal

pub slice_bounds-write_tabled-end-2 : goal.slice_bounds-write_tabled-end-2
slice_bounds-write_tabled-end-2 c = sym (length-take-le _ _ (search rules))
