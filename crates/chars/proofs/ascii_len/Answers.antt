use Rattle.std.proofs.Common.{rules}
use Prim.Native.Nat.{◌-◌}
use lib.ListN.{length, take, drop}
use Rattle.chars.specs.Pass.{PassTo}
use Rattle.parts.proofs.Pairs.{clear-along}
use Rattle.chars.proofs.Passes.{pass_start, pass_block, pass_on}
use Rattle.chars.proofs.ascii_len.Goals as goal

pub returns : goal.returns
returns c =
    let s = c.args.s.now in
    let n = c.blocks_without-n.result in
    let rest = take (length s - n) (drop n s) in
    let long : PassTo s n = clear-along (PassTo s) (pass_start s) (λ k l h p. pass_block p 64 l (search (rules, h))) c.blocks_without-n.ensures in
    let short : PassTo rest c.blocks_without.result = clear-along (PassTo rest) (pass_start rest) (λ k l h p. pass_block p 16 l (search (rules, h))) c.blocks_without.ensures in
    pass_on long short
