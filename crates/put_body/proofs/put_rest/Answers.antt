use mathlib.Core.Path.{refl}
use native.Mathlib.Omega.{arith}
use Rattle.put_body.proofs.Rest.{shared-le}
use Rattle.put_body.proofs.Tests.{none_left, some_left}
use Rattle.put_body.proofs.Turns.{gap_within, rest_less, rest-turn, rest_end}
use Rattle.put_body.proofs.put_rest.Goals as goal

pub split_at-requires : goal.split_at-requires
split_at-requires c = omega (arith, c.shared_len.ensures, shared-le c.loop-rest.rest.now)

pub slice_bounds-rest-count : goal.slice_bounds-rest-count
slice_bounds-rest-count c = gap_within _ c.first_gap-gap.ensures

pub slice_bounds-rest-start : goal.slice_bounds-rest-start
slice_bounds-rest-start c = gap_within _ c.first_gap-gap.ensures

pub loop-rest-smaller : goal.loop-rest-smaller
loop-rest-smaller c =
    let at = c.split_at.ensures in
    rest_less _ c.shared_len.ensures at.front at.back c.first_gap-gap.ensures refl (some_left c.is_empty.ensures c.loop-rest-test.true)

pub loop-rest-preserved : goal.loop-rest-preserved
loop-rest-preserved c =
    let at = c.split_at.ensures in
    rest-turn _ c.shared_len.ensures at.front at.back c.first_gap-gap.ensures refl _ _ c.escape_xml.ensures c.put_mark.ensures c.loop-rest.invariant

pub returns : goal.returns
returns c = rest_end _ (none_left c.is_empty.ensures c.loop-rest-test.false) c.loop-rest.invariant
