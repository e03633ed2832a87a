use mathlib.Core.Path.{refl, ◌∙◌}
use native.Mathlib.Omega.{arith}
use Rattle.put_texts.proofs.Written.{segments_end}
use borrow.Author.Rules.{rules}
use Rattle.put_texts.proofs.put_segments.Goals as goal

pub loop-place-init : goal.loop-place-init
loop-place-init c = (λ source. refl, refl)

pub loop-place-smaller : goal.loop-place-smaller
loop-place-smaller c = omega arith

pub loop-place-preserved : goal.loop-place-preserved
loop-place-preserved c = (λ source. c.next_segment-place.ensures.place_after source ∙ c.loop-place.invariant.0 source, search rules)

pub returns : goal.returns
returns c = λ source. segments_end _ _ _ c.find_pair-place.ensures c.part.ensures.bytes (c.put_segment.ensures source) _ (c.loop-place.invariant.0 source) c.loop-place-test.false
