use mathlib.Core.Path.{◌≡◌}
use Prim.Native.Nat.{◌≤◌}
use Rattle.tape.specs.File.{contents}
use Rattle.tape.specs.Tree.{left}
use Rattle.lists.proofs.Nodes.{onward}
use Rattle.lists.proofs.Steps.{still}
use Rattle.lists.proofs.fold_in.Given as goal

abbrev pub invariant-loop-folds : goal.invariant-loop-folds
invariant-loop-folds l = (onward (contents l.book.tape) l.span l.kind.code l.folds.alt l.folds.published l.folds.rest ≡ onward (contents l.book.tape) l.span l.kind.code l.initial.folds.alt l.initial.folds.published l.initial.folds.rest) × ((left (contents l.book.tape) l.folds.rest ≤ left (contents l.book.tape) l.initial.folds.rest) × (still (contents l.book.tape) l.span l.kind.code l.folds.alt l.folds.published l.folds.rest ≡ still (contents l.book.tape) l.span l.kind.code l.initial.folds.alt l.initial.folds.published l.initial.folds.rest))

abbrev pub decreases-loop-folds : goal.decreases-loop-folds
decreases-loop-folds l = left (contents l.book.tape) l.folds.rest
