use Rattle.put_body.proofs.Tests.{differs_none, differs_space, differs_other}
use Rattle.put_body.proofs.differs_here.Goals as goal

pub returns-in-None : goal.returns-in-None
returns-in-None c = differs_none _ c.in-None.ensures.cases

pub returns-in-Some-eq32-default : goal.returns-in-Some-eq32-default
returns-in-Some-eq32-default c = let w = c.in-Some-eq32-default in differs_space _ w.ensures.cases.0 w.field-0-0-test c.starts_solid.ensures

pub returns-in-Some : goal.returns-in-Some
returns-in-Some c = let w = c.in-Some in differs_other _ w.ensures.cases.0 w.x-test.1 c.is_plain.ensures
