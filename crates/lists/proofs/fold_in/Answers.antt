use mathlib.Core.Path.{refl}
use native.Mathlib.Omega.{arith}
use Rattle.tape.proofs.Walk.{left-turn}
use Rattle.lists.proofs.Nodes.{fold_ended, fold_cut, fold_stopped, fold_skipped, fold_passed, fold_took_alt, fold_took_pub, left_on}
use Rattle.lists.proofs.Steps.{still-ended, still-cut, still_skipped, still_stopped, still_passed, still_alt, still_pub}
use Rattle.lists.proofs.fold_in.Goals.{in-Skipped, in-Listed+in-Blank, in-Listed+in-Alt, in-Listed+in-Pub}
use Rattle.lists.proofs.fold_in.Goals as goal

pub loop-folds-init : goal.loop-folds-init
loop-folds-init c = (refl, (omega arith, refl))

pub returns : goal.returns
returns c =
    let f = c.loop-folds.folds in
    let i = c.loop-folds.invariant in
    record {
      result_value = fold_ended _ _ _ _ f.alt f.published f.rest i.0 c.in_default.is;
      rest_bound = i.1.0;
      value = still-ended _ _ _ _ f.alt f.published f.rest i.1.1 c.in_default.is;
    }

pub returns-in-End : goal.returns-in-End
returns-in-End c =
    let f = c.loop-folds.folds in
    let i = c.loop-folds.invariant in
    record {
      result_value = fold_cut _ _ _ _ f.alt f.published f.rest i.0 c.in-Some.is c.member_of.ensures c.in-End.is;
      rest_bound = i.1.0;
      value = still-cut _ _ _ _ f.alt f.published f.rest i.1.1 c.in-Some.c c.in-Some.is c.member_of.ensures c.in-End.is;
    }

pub returns-in-Stops : goal.returns-in-Stops
returns-in-Stops c =
    let f = c.loop-folds.folds in
    let i = c.loop-folds.invariant in
    record {
      result_value = fold_stopped _ _ _ _ f.alt f.published f.rest i.0 c.in-Some.is c.member_of.ensures c.in-Listed.is c.is_some.ensures c.is_some-in-Listed.ensures c.claims.ensures c.in-Stops.is;
      rest_bound = i.1.0;
      value = still_stopped _ _ _ _ f.alt f.published f.rest i.1.1 c.in-Some.c c.in-Some.is c.member_of.ensures c.in-Listed.is c.is_some.ensures c.is_some-in-Listed.ensures c.claims.ensures c.in-Stops.is;
    }

pub loop-folds-smaller : goal.loop-folds-smaller
loop-folds-smaller c = search left-turn

pub loop-folds-preserved : goal.loop-folds-preserved
loop-folds-preserved c =
    let i = c.loop-folds.invariant in
    elim c.match-member_of.branch [
      | in-Skipped w ↦ rw w.folds-is (search (fold_skipped, i.0, w), (search (left_on, i.1.0), search (still_skipped, i.1.1, w)))
      | in-Listed+in-Blank w ↦ rw w.folds-is (search (fold_passed, i.0, w), (search (left_on, i.1.0), search (still_passed, i.1.1, w)))
      | in-Listed+in-Alt w ↦ rw w.folds-is (search (fold_took_alt, i.0, w), (search (left_on, i.1.0), search (still_alt, i.1.1, w)))
      | in-Listed+in-Pub w ↦ rw w.folds-is (search (fold_took_pub, i.0, w), (search (left_on, i.1.0), search (still_pub, i.1.1, w)))
    ]
