use Rattle.put_attrs.proofs.Written.{word_spaced, word_bare}
use Rattle.put_attrs.proofs.put_word.Goals.{then-space, else-space}
use Rattle.put_attrs.proofs.put_word.Goals as goal

pub returns : goal.returns
returns c =
    elim c.if-space.branch [
      | then-space w ↦ word_spaced _ _ _ w.if-space.true _ w.piece.ensures (rw (w.desk-is, w.out-is) at c.piece-2.ensures)
      | else-space w ↦ word_bare _ _ _ w.if-space.false (rw (w.desk-is, w.out-is) at c.piece-2.ensures)
    ]
