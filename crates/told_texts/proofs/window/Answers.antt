use Rattle.told_texts.proofs.Shows.{given-told, refused-told}
use Rattle.told_texts.proofs.window.Goals as goal

pub returns-in-Given : goal.returns-in-Given
returns-in-Given c = search given-told

pub returns-in-Refused : goal.returns-in-Refused
returns-in-Refused c = search refused-told
