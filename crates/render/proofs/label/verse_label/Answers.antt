use Rattle.render.proofs.Labels.{label_rest, label_word}
use Rattle.render.proofs.label.verse_label.Goals as goal

pub returns-then-word-eq0 : goal.returns-then-word-eq0
returns-then-word-eq0 c = search label_rest

pub returns : goal.returns
returns c = search label_word
