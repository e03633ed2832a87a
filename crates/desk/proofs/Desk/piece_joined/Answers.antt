use Rattle.desk.specs.Stroke.{ink}
use Rattle.desk.proofs.Strokes.{drew_one}
use Rattle.desk.proofs.Desk.piece_joined.Goals as goal

pub returns : goal.returns
unfolding ink
returns c = drew_one _ _ _ c.put_words.ensures
