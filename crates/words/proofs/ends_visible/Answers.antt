use native.Mathlib.Omega.{arith}
use Prim.Native.Nat.{◌-◌}
use borrow.Author.Tests.{ltb-false}
use mathlib.Core.Path.{sym, ap, ◌∙◌}
use lib.ListN.{length}
use Rattle.std.proofs.lemmas.Option.{get_or_from_slice_get}
use Rattle.words.specs.First.{visible}
use Rattle.words.proofs.Ends.{ends-none, ends_last}
use Rattle.words.proofs.ends_visible.Goals as goal

pub returns-in-Some : goal.returns-in-Some
returns-in-Some c =
    let s = c.args.s.now in
    ends_last s (c.is_visible.ensures ∙ ap visible (sym (get_or_from_slice_get s (length s - 1) _ 0 (sym c.in-Some.ensures.value))))

pub returns-in-None : goal.returns-in-None
returns-in-None c = ends-none c.args.s.now (omega (arith, ltb-false _ _ (sym c.in-None.ensures.item.0)))
