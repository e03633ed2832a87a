use Rattle.std.proofs.Common.{rules}
use Rattle.parts.proofs.Pairs.{clear-along}
use Rattle.put_body.specs.Body.{SharedTo}
use Rattle.put_body.proofs.Tests.{shared_start}
use Rattle.put_body.proofs.Blocks.{shared_block}
use Rattle.put_body.proofs.shared_blocks.Goals as goal

pub returns : goal.returns
returns c =
    let s = c.args.s.now in
    clear-along (SharedTo s) (shared_start s) (λ k l h p. shared_block s k l (search (rules, h)) p) c.blocks_without.ensures
