use Rattle.std.proofs.Common.{rules}
use Rattle.parts.proofs.Pairs.{clear-along}
use Rattle.put_body.specs.Easy.{EasyTo}
use Rattle.put_body.proofs.Easy.{easy_start, easy_block}
use Rattle.put_body.proofs.easy_blocks.Goals as goal

pub returns : goal.returns
returns c =
    let s = c.args.s.now in
    clear-along (EasyTo s) (easy_start s) (λ k l h p. easy_block s k l (search (rules, h)) p) c.blocks_without.ensures
