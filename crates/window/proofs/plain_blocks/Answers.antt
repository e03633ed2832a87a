use Rattle.std.proofs.Common.{rules}
use Rattle.window.specs.Plain.{PlainTo}
use Rattle.parts.proofs.Pairs.{clear-along}
use Rattle.window.proofs.Escape.{plain_start, plain_block}
use Rattle.window.proofs.plain_blocks.Goals as goal

pub returns : goal.returns
returns c =
    let attr = c.args.attr in
    let s = c.args.s.now in
    clear-along (PlainTo attr s) (plain_start attr s) (λ k l h p. plain_block p 16 l (search (rules, h))) c.blocks_without.ensures
