use Prim.Native.Nat.{◌+◌}
use native.Mathlib.Omega.{arith}
use lib.ListN.{drop}
use borrow.Author.Tests.{tests}
use Rattle.std.proofs.Common.{rules}
use Rattle.std.proofs.lemmas.Iterator.{YieldsList-from_slice}
use Rattle.std.proofs.lemmas.Iterator.Consumers.{count_from_yields_List}
use Rattle.std.proofs.lemmas.Iterator.Search.{YieldsList-from_take_while}
use Rattle.attrs.specs.Barred.{in_key, in_value, RunTo}
use Rattle.attrs.proofs.Scan.{rest_is, run_counted, pair_found}
use Rattle.attrs.proofs.barred.is_barred.Goals as goal

pub returns-then-j-s : goal.returns-then-j-s
returns-then-j-s c =
    let s = c.args.s.now in
    let key_rest = rest_is s 1 in
    let value_rest = rest_is s (1 + c.count-i.result + 2) in
    let key : RunTo in_key s 1 (1 + c.count-i.result) =
    run_counted in_key s 1
    (count_from_yields_List _ _ c.count-i.ensures.ran
    (YieldsList-from_take_while _ in_key (YieldsList-from_slice (drop 1 s) cc) c.take_while.ensures.closure c.take_while.ensures.done (λ x b q k. search (rules, tests)))) in
    let value : RunTo in_value s (1 + c.count-i.result + 2) (1 + c.count-i.result + 2 + c.count.result) =
    run_counted in_value s (1 + c.count-i.result + 2)
    (count_from_yields_List _ _ c.count.ensures.ran
    (YieldsList-from_take_while _ in_value (YieldsList-from_slice (drop (1 + c.count-i.result + 2) s) cc) c.take_while-2.ensures.closure c.take_while-2.ensures.done (λ x b q k. search (rules, tests)))) in
    pair_found s c.if-s-ne124.false key c.if-i-eq1.false c.if-s-i-lt3.false c.if-s-i-ne61.false c.if-s-i-ne34.false value (omega arith)
