use mathlib.Core.Path.{◌∙◌}
use borrow.Author.Tests.{lt-ltb, le-ltb}
use Rattle.put_body.proofs.Frames.{and_then, and_else, text_space, text_edges}
use Rattle.put_body.proofs.frame.framed_text.Goals as goal
use Rattle.put_body.proofs.frame.framed_text.Goals.{then-front-gt0, else-front-gt0}

pub returns-then-before : goal.returns-then-before
returns-then-before c = text_space _ _ _ _ _ c.if-len-eq0.true (and_then _ c.if-before.true)

pub returns-else-before : goal.returns-else-before
returns-else-before c = text_space _ _ _ _ _ c.if-len-eq0.true (and_else _ c.if-before.false)

pub returns-then-ends : goal.returns-then-ends
returns-then-ends c =
    text_edges _ _ _ _ _ c.if-len-eq0.false (elim c.if-front-gt0.branch [ then-front-gt0 w ↦ w.result-is ∙ and_then _ (lt-ltb 0 _ w.if-front-gt0.true) | else-front-gt0 w ↦ w.result-is ∙ and_else _ (le-ltb 0 _ w.if-front-gt0.false) ]) (and_then _ c.if-ends.true)

pub returns-else-ends : goal.returns-else-ends
returns-else-ends c =
    text_edges _ _ _ _ _ c.if-len-eq0.false (elim c.if-front-gt0.branch [ then-front-gt0 w ↦ w.result-is ∙ and_then _ (lt-ltb 0 _ w.if-front-gt0.true) | else-front-gt0 w ↦ w.result-is ∙ and_else _ (le-ltb 0 _ w.if-front-gt0.false) ]) (and_else _ c.if-ends.false)
