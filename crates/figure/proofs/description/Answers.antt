use Rattle.figure.proofs.Figures.{described_none, described_text}
use Rattle.figure.proofs.description.Goals as goal

pub returns-in-None : goal.returns-in-None
returns-in-None c = search described_none

pub returns-in-Some : goal.returns-in-Some
returns-in-Some c = search described_text
