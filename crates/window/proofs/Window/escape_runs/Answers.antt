use native.Mathlib.Omega.{arith}
use Rattle.window.proofs.Escape.{plain-le, run-last, run-turn}
use Rattle.window.proofs.Window.escape_runs.Goals as goal

pub split_at-requires : goal.split_at-requires
split_at-requires c = omega (arith, c.plain_len.ensures, plain-le c.args.attr c.loop-x.rest.now)

pub returns-in_default : goal.returns-in_default
returns-in_default c =
    let at = c.split_at.ensures in
    run-last _ _ _ c.plain_len.ensures at.front at.back c.put_run.ensures c.loop-x.invariant c.in_default.ensures.cases

pub loop-x-preserved : goal.loop-x-preserved
loop-x-preserved c =
    let at = c.split_at.ensures in
    run-turn _ _ _ c.plain_len.ensures at.front at.back c.put_run.ensures c.loop-x.invariant _ _ c.in-Some.ensures.cases.0 c.entity.ensures c.put_run-in-loop-x.ensures
