use native.Mathlib.Omega.{arith}
use Rattle.put_texts.proofs.Written.{split-sum, segments-turn}
use Rattle.put_texts.proofs.next_segment.Goals as goal

pub overflow_add-result : goal.overflow_add-result
overflow_add-result c = omega (arith, split-sum _ _ c.requires c.from-rest.ensures.bytes c.find_pair-n.ensures)

pub returns : goal.returns
returns c = record { place_after = λ source. segments-turn _ _ _ c.requires c.from-rest.ensures.bytes c.find_pair-n.ensures (c.put_break.ensures source) c.part.ensures.bytes (c.put_segment.ensures source); place_lt_place = omega arith }
