use mathlib.Core.Path.{sym}
use lib.Seq.{set_out}
use borrow.Author.Tests.{le-leb, lt-leb}
use Rattle.window.specs.Page.{stamp}
use Rattle.window.proofs.stamp.Goals as goal
use Rattle.window.proofs.stamp.Goals.{else-from-at-via-then-from-at+else-at-from, else-from-at-via-else-from-at}

pub returns-then-at-from : goal.returns-then-at-from
unfolding stamp
returns-then-at-from c = simp (le-leb _ _ c.if-from-at.true)

pub returns-else-from-at : goal.returns-else-from-at
unfolding stamp
returns-else-from-at c = elim c.else-from-at.branch [
  | else-from-at-via-then-from-at+else-at-from w ↦ simp (le-leb _ _ w.if-from-at.true) (sym (set_out _ _ _ w.if-at-from.false))
  | else-from-at-via-else-from-at w ↦ simp (lt-leb _ _ w.if-from-at.false)
]
