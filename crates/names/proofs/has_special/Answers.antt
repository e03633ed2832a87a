use mathlib.Core.Path.{◌∙◌}
use borrow.Author.Tests.{tests}
use Rattle.std.proofs.Common.{true, rules}
use Rattle.std.proofs.lemmas.Iterator.{YieldsList-from_slice}
use Rattle.std.proofs.lemmas.Iterator.Search.{any_from_yields_List}
use Rattle.chars.specs.Escape.{special}
use Rattle.names.proofs.Specials.{special_any}
use Rattle.names.proofs.has_special.Goals as goal

pub returns : goal.returns
returns c =
    any_from_yields_List (special true) _ _ _ c.any.ensures.ran (YieldsList-from_slice c.args.s.now cc) (λ x b q k. search (rules, tests))
    ∙ special_any c.args.s.now
