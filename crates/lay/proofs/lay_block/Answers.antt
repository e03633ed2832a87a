use native.Mathlib.Omega.{arith}
use Rattle.parts.proofs.Block.{block-laid}
use Rattle.lay.proofs.lay_block.Goals as goal

pub returns : goal.returns
returns c =
    block-laid _ _ _ _ (omega arith) (omega arith) (omega arith) (omega arith) _ _ (omega arith) (omega arith)
    c.copy.ensures c.copy-2.ensures c.copy-3.ensures c.copy-4.ensures
