use Rattle.checker.proofs.Laws.{attrs_rest, attrs_mark, attrs_end, with_attr}
use Rattle.checker.specs.Code.{mark_in}
use mathlib.Core.Path.{refl}
use Rattle.checker.proofs.attrs_at.Goals as goal

pub loop-k-init : goal.loop-k-init
unfolding mark_in
loop-k-init c = (refl, refl)

pub loop-k-preserved : goal.loop-k-preserved
loop-k-preserved c =
    let inv = c.loop-k.invariant in (
      attrs_rest _ _ c.from.ensures.bytes c.pair_at.ensures c.in-Some.is inv.0,
      attrs_mark _ _ c.from.ensures.bytes c.pair_at.ensures c.in-Some.is _ _ c.part-key.ensures.bytes (λ s. with_attr _ _ _ c.key_of.ensures (c.formed-form.ensures s)) inv.1,
    )

pub returns : goal.returns
returns c = let inv = c.loop-k.invariant in attrs_end _ c.loop-k.i c.from.ensures.bytes c.pair_at.ensures _ c.in_default.is inv.1 inv.0
