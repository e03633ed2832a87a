use mathlib.Core.Path.{refl}
use Rattle.layout.proofs.Turn.{entered-laid}
use borrow.Author.Rules.{rules}
use Rattle.layout.proofs.insert.Goals as goal

pub returns : goal.returns
returns c =
    entered-laid _ _ _ _ c.requires.fits c.requires.nodes_value c.requires.name_in_bounds (search rules) refl refl refl c.lay.ensures c.lay-2.ensures c.settle.ensures
