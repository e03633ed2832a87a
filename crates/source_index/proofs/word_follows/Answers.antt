use Rattle.std.proofs.Common.{◌≡◌}
use Prim.Native.Nat.{◌+◌, ◌≤◌, max}
use native.Mathlib.Omega.{arith}
use lib.ListN.{length, drop}
use Rattle.chars.specs.Utf8.{step}
use Rattle.source_index.proofs.Firsts.{width_is, width_most}
use Rattle.source_index.proofs.Runs.{word_before}
use Rattle.source_index.proofs.word_follows.Goals as goal

pub overflow_add-result : goal.overflow_add-result
overflow_add-result c =
    let width : c.first_char.result.width ≡ step (drop c.next-p.result c.args.s.now) = search width_is in
    let fits : c.next-p.result + c.first_char.result.width ≤ max c.next-p.result (length c.args.s.now) = search width_most in omega arith

pub returns : goal.returns
returns c =
    let width : c.first_char.result.width ≡ step (drop c.next-p.result c.args.s.now) = search width_is in search word_before
