use Prim.Native.Nat.{◌-◌, ◌<◌, ◌^◌}
use mathlib.Core.Path.{◌≡◌}
use lib.ListN.{length, drop}
use Rattle.window.specs.Page.{paint, page_of}
use Rattle.chars.specs.Escape.{escape}
use Rattle.texts.specs.Text.{spaced}
use Rattle.words.specs.declared.Set.TheVariants.{Unicode}
use Rattle.words.specs.Words.{words}
use Rattle.put_body.proofs.put_spaced.Given as goal

abbrev pub invariant-loop-at : goal.invariant-loop-at
invariant-loop-at l = (paint (page_of l.w l.out) (escape l.attr (spaced (words Unicode (drop l.at l.s)))) ≡ paint (page_of l.initial.w l.initial.out) (escape l.attr (spaced (words Unicode (drop l.start l.s))))) × (length l.out ≡ length l.initial.out) × (length l.s < 2 ^ 64)

abbrev pub decreases-loop-at : goal.decreases-loop-at
decreases-loop-at l = length l.s - l.at
