use mathlib.Core.Path.{◌∙◌}
use Prim.Native.Nat.{ℕ}
use lib.Dec.{eqb}
use Rattle.std.proofs.Common.{rules, tests}
use Rattle.std.proofs.lemmas.Iterator.{YieldsList-from_slice, YieldsList-from_zip}
use Rattle.std.proofs.lemmas.Iterator.Search.{all_from_yields_List}
use Rattle.parts.proofs.Laws.{begins-zip, begins_short}
use Rattle.parts.proofs.begins_with.Goals as goal

pub returns-then-word-s : goal.returns-then-word-s
returns-then-word-s c =
    let w = c.args.word.now in
    let s = c.args.s.now in
    all_from_yields_List (λ (p : ℕ × ℕ). eqb p.0 p.1) c.all.new.self _ c.all.result c.all.ensures.ran
    (YieldsList-from_zip (YieldsList-from_slice w cc) (YieldsList-from_slice s cc)) (λ x b q k. search (rules, tests))
    ∙ begins-zip w s c.if-word-s.true

pub returns-else-word-s : goal.returns-else-word-s
returns-else-word-s c = rw (begins_short c.args.word.now c.args.s.now c.if-word-s.false) (search (rules, tests))
